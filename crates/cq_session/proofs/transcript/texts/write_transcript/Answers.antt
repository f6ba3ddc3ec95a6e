use Rattle.std.proofs.Common.{◌∙◌, ap}
use Rattle.std.proofs.lemmas.Result.{err_from_is_err_and}
use Rattle.cq_session.proofs.Steps.{advanced_both}
use Rattle.cq_session.proofs.Consulting.{breaks_more}
use Rattle.cq_session.proofs.Halting.{told_files, told_input, halts}
use Rattle.cq_session.proofs.transcript.texts.write_transcript.Goals as goal

pub returns-in_err-before-clause-part : goal.returns-in_err-before-clause-part
returns-in_err-before-clause-part g c =
    let p = err_from_is_err_and c.from_residual.result c.from_residual.ensures.1 in
    let part = c.in_err-before.ensures.part in
    rw (p.1, p.2)
    (λ o a told budgets files.
    let broken = part o (g.I.Source.left c.args.input.now) (told_files _ _ o told) in
    halts o a _ _ _ _ (rw (budgets, c.requires.new, ← files) at broken))

pub returns-in_err-before-clause-cause : goal.returns-in_err-before-clause-cause
returns-in_err-before-clause-cause g c =
    let p = err_from_is_err_and c.from_residual.result c.from_residual.ensures.1 in
    rw (p.1, p.2) (c.in_err-before.ensures.cause _ _)

pub returns-in_err-behind-clause-part : goal.returns-in_err-behind-clause-part
returns-in_err-behind-clause-part g c =
    let p = err_from_is_err_and c.from_residual-in_err-behind.result c.from_residual-in_err-behind.ensures.1 in
    let e = c.in_ok-before.ensures in
    let part = rw e.budgets at c.in_err-behind.ensures.part in
    rw (p.1, p.2)
    (λ o a told budgets files.
    let broken = breaks_more _ o _ _ _ _ _ _ (e.whole o (told_files _ _ o told)) _ _ (part o (told_input _ _ o told)) in
    halts o a _ _ _ _ (rw (budgets, c.requires.new, ← files) at broken))

pub returns-in_err-behind-clause-cause : goal.returns-in_err-behind-clause-cause
returns-in_err-behind-clause-cause g c =
    let p = err_from_is_err_and c.from_residual-in_err-behind.result c.from_residual-in_err-behind.ensures.1 in
    let same = c.in_ok-before.ensures.cause (g.I.Source.faults c.args.input.now) (g.I.Source.taken c.args.input.now) in
    let cause = c.in_err-behind.ensures.cause (g.F.Shelf.faults c.write_files.new.shelf) (g.F.Shelf.refused c.write_files.new.shelf) in
    rw (p.1, p.2) (rw same at cause)

pub returns-clause-whole : goal.returns-clause-whole
returns-clause-whole g c =
    let e = c.in_ok-before.ensures in
    let whole = rw e.budgets at c.in_ok-behind.ensures.whole in
    rw c.and.ensures
    (λ o a told budgets files.
    let input = whole o (told_input _ _ o told) in
    let advanced = advanced_both _ o _ _ _ _ _ (e.whole o (told_files _ _ o told)) _ _ _ input.advanced in
    record { database = input.database; advanced = rw (budgets, c.requires.new, ← files) at advanced; size = input.size; read = input.read })

pub returns-clause-cause : goal.returns-clause-cause
returns-clause-cause g c =
    let same = c.in_ok-before.ensures.cause (g.I.Source.faults c.args.input.now) (g.I.Source.taken c.args.input.now) in
    let behind = c.in_ok-behind.ensures.cause (g.F.Shelf.faults c.write_files.new.shelf) (g.F.Shelf.refused c.write_files.new.shelf) in
    record {
      loads = ap (λ k. k.shelf_faults) same;
      refusals = ap (λ k. k.shelf_refused) same;
      reads = behind.reads;
      writes = behind.writes ∙ ap (λ k. k.out_faults) same;
    }
