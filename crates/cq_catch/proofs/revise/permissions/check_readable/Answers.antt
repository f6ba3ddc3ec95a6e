use Rattle.std.proofs.Common.{◌∙◌, Some, sym, ap, subst}
use Rattle.spec_builtins.specs.Built as built
use Rattle.spec_builtins.specs.Clauses.{clause_goal_error, not_readable}
use Rattle.spec_search.specs.Changes.{is_private}
use Rattle.cq_built.specs.Errors.{error_tree, indicator_of, HasCulprit}
use Rattle.cq_built.specs.declared.errors.BuiltinError.{BuiltinError}
use Rattle.cq_resolve.specs.Database.{as_database}
use Rattle.cq_term.specs.Trees.{tree}
use Rattle.cq_catch.proofs.Refused.{own_first, refused_then, lawful_then}
use Rattle.cq_catch.proofs.revise.permissions.check_readable.Goals as goal

pub returns-then-is_private-clause-error : goal.returns-then-is_private-clause-error
returns-then-is_private-clause-error c = λ ops.
    let texts = c.args.atoms.now in
    let ts = c.args.heap.now.now.terms in
    let h = tree texts ts c.args.head in
    refused_then (clause_goal_error h (tree texts ts c.args.body)) (is_private (as_database texts ops c.args.clauses.now)) not_readable
    (indicator_of texts c.in-Ok.predicate) (built.indicator_of h) c.in-Ok.ensures.predicate.indicator c.in-Ok.ensures.lawful (c.is_private.ensures ops ∙ c.if-is_private.true)
    ∙ ap (λ (e : BuiltinError). Some (error_tree texts ts e)) (sym c.refused.ensures)

pub returns-then-is_private-clause-culprit : goal.returns-then-is_private-clause-culprit
returns-then-is_private-clause-culprit c =
    subst (λ (e : BuiltinError). HasCulprit c.args.atoms.now c.args.heap.now.now.terms e) (sym c.refused.ensures) c.in-Ok.ensures.predicate.known

pub returns-else-is_private-clause-lawful : goal.returns-else-is_private-clause-lawful
returns-else-is_private-clause-lawful c = λ ops.
    let texts = c.args.atoms.now in
    let ts = c.args.heap.now.now.terms in
    let h = tree texts ts c.args.head in
    lawful_then (clause_goal_error h (tree texts ts c.args.body)) (is_private (as_database texts ops c.args.clauses.now)) not_readable
    (indicator_of texts c.in-Ok.predicate) (built.indicator_of h) c.in-Ok.ensures.predicate.indicator c.in-Ok.ensures.lawful (c.is_private.ensures ops ∙ c.if-is_private.false)

pub returns-in-Err-clause-error : goal.returns-in-Err-clause-error
returns-in-Err-clause-error c = λ ops.
    let texts = c.args.atoms.now in
    let ts = c.args.heap.now.now.terms in
    let h = tree texts ts c.args.head in
    own_first (clause_goal_error h (tree texts ts c.args.body)) (is_private (as_database texts ops c.args.clauses.now)) not_readable
    (error_tree texts ts c.in-Err.error) (built.indicator_of h) c.in-Err.ensures.error
