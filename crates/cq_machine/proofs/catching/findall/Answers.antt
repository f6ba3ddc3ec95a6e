use Rattle.std.proofs.Common.{◌≡◌, Some, refl, sym, ap, subst, ◌∙◌}
use Rattle.spec_builtins.specs.Terms as builtins
use Rattle.spec_search.specs.Control.{findall_row}
use Rattle.spec_search.specs.Replies.{Raises}
use Rattle.spec_search.specs.Rows.{nth}
use Rattle.cq_built.specs.Errors.{error_tree}
use Rattle.cq_branch.proofs.Arguments.{argument_reads}
use Rattle.cq_branch.specs.Calls.{IsRaised}
use Rattle.cq_branch.specs.Worlds.{Grown}
use Rattle.cq_settle.specs.Contents.{Contents}
use Rattle.cq_machine.specs.Machines.{terms, now}
use Rattle.cq_machine.proofs.Built.{stands_still}
use Rattle.cq_machine.proofs.catching.findall.Goals as goal

pub returns-in-Ok-clause-row : goal.returns-in-Ok-clause-row
returns-in-Ok-clause-row c = λ p behind g s.
    let m = c.args.m.now in
    let t = argument_reads m.atoms (now m).0 p.state c.args.goal 0 c.arg-template.result g s.reads c.arg-template.ensures.live c.arg-template.ensures.arg in
    let a = argument_reads m.atoms (now m).0 p.state c.args.goal 1 c.arg-called.result g s.reads c.arg-called.ensures.live c.arg-called.ensures.arg in
    let l = argument_reads m.atoms (now m).0 p.state c.args.goal 2 c.arg-list.result g s.reads c.arg-list.ensures.live c.arg-list.ensures.arg in
    c.in-Ok.ensures.row m.clauses c.args.height p behind _ _ _ s.selected t a l

pub returns-in-Err-Error-clause-row : goal.returns-in-Err-Error-clause-row
returns-in-Err-Error-clause-row c = λ p behind g s.
    let m = c.args.m.now in
    let l = argument_reads m.atoms (now m).0 p.state c.args.goal 2 c.arg-list.result g s.reads c.arg-list.ensures.live c.arg-list.ensures.arg in
    let row = findall_row p (nth (builtins.arguments g) 0) (nth (builtins.arguments g) 1) (nth (builtins.arguments g) 2) in
    let raised : row ≡ Raises (error_tree m.atoms (terms m) c.in-Err-Error.error) =
    subst (λ f. IsRaised m.atoms (terms m) f row) c.in-Err-Error.field-0-is (c.in-Err-Error.ensures.fault p _ _ _ l) in
    raised ∙ ap (λ w. Raises (error_tree m.atoms w.heap.terms c.in-Err-Error.error)) (sym c.in-Err-Error.ensures.world)

pub returns-in-Err-Error-clause-raises : goal.returns-in-Err-Error-clause-raises
returns-in-Err-Error-clause-raises c =
    let m = c.args.m.now in
    let e = c.in-Err-Error.ensures.world in
    stands_still m (record m { world = c.findall.new.world; choices = c.findall.new.choices })
    (record { atoms = refl; names = refl; ops = refl; clauses = refl; budget = ap (λ (w : Contents). w.pivots) e }) c.in-Err-Error.ensures.err c.in-Err-Error.ensures.err_saved
    (subst (λ (w : Contents). Grown m.atoms (now m) (w, c.findall.new.world.second.now)) (sym e)
    (record { state = λ st i. i; terms = λ id t r. r; lists = c.in-Err-Error.ensures.keeps }))
