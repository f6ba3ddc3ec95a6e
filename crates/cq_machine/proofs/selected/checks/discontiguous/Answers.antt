use Rattle.std.proofs.Common.{◌≡◌, map, None, Some, true, sym, ap, subst, ◌∙◌}
use Rattle.spec_syntax.specs.Trees.{Tree}
use Rattle.spec_builtins.specs.Clauses.{declarations, not_changeable}
use Rattle.spec_search.specs.Builtins.{is_built_in, Discontiguous}
use Rattle.spec_search.specs.Changes.{discontiguous_row}
use Rattle.spec_search.specs.Replies.{Reply, Raises, succeeds_if}
use Rattle.cq_built.specs.Errors.{error_tree, indicator_of, HasCulprit}
use Rattle.cq_built.specs.declared.errors.BuiltinError.{BuiltinError}
use Rattle.cq_term.specs.Trees.{tree}
use Rattle.cq_machine.specs.Machines.{terms, now}
use Rattle.cq_machine.specs.Stepping.{row_of, IsStep}
use Rattle.cq_machine.proofs.Kept.{argument_is}
use Rattle.cq_machine.proofs.Declared.{row_own, row_of_all}
use Rattle.cq_machine.proofs.selected.checks.discontiguous.Goals as goal

pub returns-in-Ok-clause-row : goal.returns-in-Ok-clause-row
returns-in-Ok-clause-row c = λ height p behind g s.
    let m = c.args.m.now in
    let u : Tree = tree m.atoms (terms m) c.arg-declared.result in
    let a = argument_is m.atoms (now m).0 p.state c.args.goal 0 c.arg-declared.result g s.reads c.arg-declared.ensures.live c.arg-declared.ensures.arg in
    let are : map (indicator_of m.atoms) c.deref.result.now ≡ declarations u = ap (map (indicator_of m.atoms)) c.deref.ensures.value ∙ c.in-Ok.ensures.declared in
    let row : row_of Discontiguous p g ≡ succeeds_if true p =
    ap (discontiguous_row p) (sym a) ∙ row_of_all p u _ None (c.declarations_in_turn.ensures is_built_in u) c.in-Ok.ensures.lawful are c.in-None.ensures.none in
    subst (λ (r : Reply). IsStep m c.succeed_if.result p behind r) (sym row) (c.succeed_if.ensures.row m c.args.goal height p behind g s)

pub returns-in-Some-clause-row : goal.returns-in-Some-clause-row
returns-in-Some-clause-row c = λ height p behind g s.
    let m = c.args.m.now in
    let u : Tree = tree m.atoms (terms m) c.arg-declared.result in
    let a = argument_is m.atoms (now m).0 p.state c.args.goal 0 c.arg-declared.result g s.reads c.arg-declared.ensures.live c.arg-declared.ensures.arg in
    let are : map (indicator_of m.atoms) c.deref.result.now ≡ declarations u = ap (map (indicator_of m.atoms)) c.deref.ensures.value ∙ c.in-Ok.ensures.declared in
    ap (discontiguous_row p) (sym a)
    ∙ row_of_all p u _ (Some (not_changeable (indicator_of m.atoms c.in-Some.predicate))) (c.declarations_in_turn.ensures is_built_in u) c.in-Ok.ensures.lawful are c.in-Some.ensures.some
    ∙ ap (λ (e : BuiltinError). Raises (error_tree m.atoms (terms m) e)) (sym c.not_changeable.ensures)

pub returns-in-Some-clause-goes : goal.returns-in-Some-clause-goes
returns-in-Some-clause-goes c =
    subst (λ (e : BuiltinError). HasCulprit c.args.m.now.atoms (terms c.args.m.now) e) (sym c.not_changeable.ensures) c.in-Some.ensures.known

pub returns-in-Error-clause-row : goal.returns-in-Error-clause-row
returns-in-Error-clause-row c = λ height p behind g s.
    let m = c.args.m.now in
    let u : Tree = tree m.atoms (terms m) c.arg-declared.result in
    let a = argument_is m.atoms (now m).0 p.state c.args.goal 0 c.arg-declared.result g s.reads c.arg-declared.ensures.live c.arg-declared.ensures.arg in
    ap (discontiguous_row p) (sym a) ∙ row_own p u (error_tree m.atoms (terms m) c.in-Error.error) (c.declarations_in_turn.ensures is_built_in u) (rw c.in-Error.is at c.in-Err.ensures.fault)
