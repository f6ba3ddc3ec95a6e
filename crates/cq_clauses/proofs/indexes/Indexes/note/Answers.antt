use Rattle.std.proofs.Common.{◌≡◌, ◌<◌, Some, refl, sym, ap, ◌∙◌, length, arith}
use Rattle.std.specs.Prelude.{slice_get}
use Rattle.std.proofs.lemmas.Option.{slice_get_read}
use Rattle.cq_clauses.proofs.Grown.{on_ok, grown_not, grown_one}
use Rattle.cq_clauses.proofs.indexes.Indexes.note.Goals as goal

pub returns-then-is_ok : goal.returns-then-is_ok
returns-then-is_ok c =
    let xs = c.args.self.now.list.items in
    let l : c.args.procedure < length xs = omega (arith, c.if-procedure-len.false, c.len.ensures, c.args.self.now.list.ok.0) in
    let stood : slice_get xs c.args.procedure ≡ Some (Some c.in-Some.index) =
    slice_get_read xs (length xs) c.args.procedure c.index_mut.result.now refl l c.index_mut.ensures.value ∙ ap Some (sym c.take.ensures.value ∙ c.in-Some.is) in
    rw c.take.ensures.after (grown_one xs c.args.procedure c.in-Some.index stood c.args.key c.args.end c.add.new.self (on_ok c.add.result _ (sym c.is_ok.ensures.value ∙ c.if-is_ok.true) c.add.ensures))

pub returns-else-is_ok : goal.returns-else-is_ok
returns-else-is_ok c =
    let xs = c.args.self.now.list.items in
    let l : c.args.procedure < length xs = omega (arith, c.if-procedure-len.false, c.len.ensures, c.args.self.now.list.ok.0) in
    let stood : slice_get xs c.args.procedure ≡ Some (Some c.in-Some.index) =
    slice_get_read xs (length xs) c.args.procedure c.index_mut.result.now refl l c.index_mut.ensures.value ∙ ap Some (sym c.take.ensures.value ∙ c.in-Some.is) in
    rw c.take.ensures.after (grown_not xs c.args.procedure c.in-Some.index stood c.args.key c.args.end)
