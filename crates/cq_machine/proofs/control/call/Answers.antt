use Rattle.std.proofs.Common.{◌≡◌, [], Some, refl, sym, ap, subst, ◌∙◌}
use Rattle.spec_builtins.specs.Terms as builtins
use Rattle.spec_search.specs.Control.{call_row}
use Rattle.spec_search.specs.Rows.{nth}
use Rattle.cq_branch.specs.Calls.{IsRaised}
use Rattle.spec_search.specs.Replies.{Raises}
use Rattle.cq_built.specs.Errors.{error_tree}
use Rattle.cq_settle.specs.Contents.{Contents}
use Rattle.cq_branch.specs.Worlds.{Grown}
use Rattle.cq_branch.proofs.Arguments.{argument_reads}
use Rattle.cq_branch.proofs.Done.{length-stack}
use Rattle.cq_machine.specs.Machines.{terms, now, saved, holds}
use Rattle.cq_machine.proofs.Built.{stands_still}
use Rattle.cq_machine.proofs.Kept.{leads_over}
use Rattle.cq_machine.proofs.control.call.Goals as goal

pub returns-in-Ok-clause-row : goal.returns-in-Ok-clause-row
returns-in-Ok-clause-row c = λ p behind g s.
    let m = c.args.m.now in
    let a = argument_reads m.atoms (now m).0 p.state c.args.goal 0 c.arg-called.result g s.reads c.arg-called.ensures.live c.arg-called.ensures.arg in
    leads_over m.atoms m.clauses (saved m) _ m.choices _ (Some c.in-Ok.k) p behind _ c.in-Ok.ensures.saved
    (c.in-Ok.ensures.row (holds m) p behind _ (length-stack m.atoms m.clauses (saved m) m.choices c.requires.sound.marked) (s.selected.place, s.selected.waiting) a)

pub returns-in-Err-Error-clause-row : goal.returns-in-Err-Error-clause-row
returns-in-Err-Error-clause-row c = λ p behind g s.
    let m = c.args.m.now in
    let a = argument_reads m.atoms (now m).0 p.state c.args.goal 0 c.arg-called.result g s.reads c.arg-called.ensures.live c.arg-called.ensures.arg in
    let raised : call_row p (nth (builtins.arguments g) 0) [] ≡ Raises (error_tree m.atoms (terms m) c.in-Err-Error.error) =
    subst (λ f. IsRaised m.atoms (terms m) f (call_row p (nth (builtins.arguments g) 0) [])) c.in-Err-Error.field-0-is (c.in-Err-Error.ensures.fault p _ a) in
    raised ∙ ap (λ w. Raises (error_tree m.atoms w.heap.terms c.in-Err-Error.error)) (sym c.in-Err-Error.ensures.world)

pub returns-in-Err-Error-clause-raises : goal.returns-in-Err-Error-clause-raises
returns-in-Err-Error-clause-raises c =
    let m = c.args.m.now in
    let e = c.in-Err-Error.ensures.world in
    stands_still m (record m { world = c.call.new.world })
    (record { atoms = refl; names = refl; ops = refl; clauses = refl; budget = ap (λ (w : Contents). w.pivots) e }) refl c.in-Err-Error.ensures.saved
    (subst (λ (w : Contents). Grown m.atoms (now m) (w, c.call.new.world.second.now)) (sym e)
    (record { state = λ st i. i; terms = λ id t r. r; lists = c.in-Err-Error.ensures.keeps }))
