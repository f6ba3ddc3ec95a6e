use Rattle.std.proofs.Common.{◌∙◌, Some, sym, ap, subst}
use Rattle.spec_builtins.specs.Built as built
use Rattle.spec_builtins.specs.Clauses.{head_body, clause_error, not_changeable}
use Rattle.spec_search.specs.Changes.{is_private}
use Rattle.cq_built.specs.Errors.{error_tree, indicator_of, HasCulprit}
use Rattle.cq_built.specs.declared.errors.BuiltinError.{BuiltinError}
use Rattle.cq_resolve.specs.Database.{as_database}
use Rattle.cq_term.specs.Trees.{tree}
use Rattle.cq_catch.proofs.Refused.{own_found, refused_then, lawful_then, predicate_is}
use Rattle.cq_catch.proofs.revise.permissions.check_change.Goals as goal

pub returns-then-is_private-clause-fault : goal.returns-then-is_private-clause-fault
returns-then-is_private-clause-fault c = λ ops.
    let texts = c.args.atoms.now in
    let ts = c.args.heap.now.now.terms in
    let t = tree texts ts c.args.clause in
    let found = c.in-Ok.checked in
    refused_then (clause_error t) (is_private (as_database texts ops c.args.clauses.now)) not_changeable (indicator_of texts found.predicate) (built.indicator_of (head_body t).head)
    (predicate_is texts ts c.args.clause found.parts found.predicate c.in-Ok.ensures.parts c.in-Ok.ensures.predicate) c.in-Ok.ensures.lawful
    (c.is_private.ensures ops ∙ c.if-is_private.true)
    ∙ ap (λ (e : BuiltinError). Some (error_tree texts ts e)) (sym c.refused.ensures)

pub returns-then-is_private-clause-culprit : goal.returns-then-is_private-clause-culprit
returns-then-is_private-clause-culprit c =
    subst (λ (e : BuiltinError). HasCulprit c.args.atoms.now c.args.heap.now.now.terms e) (sym c.refused.ensures) c.in-Ok.ensures.predicate.known

pub returns-else-is_private-clause-lawful : goal.returns-else-is_private-clause-lawful
returns-else-is_private-clause-lawful c = λ ops.
    let texts = c.args.atoms.now in
    let ts = c.args.heap.now.now.terms in
    let t = tree texts ts c.args.clause in
    let found = c.in-Ok.checked in
    lawful_then (clause_error t) (is_private (as_database texts ops c.args.clauses.now)) not_changeable (indicator_of texts found.predicate) (built.indicator_of (head_body t).head)
    (predicate_is texts ts c.args.clause found.parts found.predicate c.in-Ok.ensures.parts c.in-Ok.ensures.predicate) c.in-Ok.ensures.lawful
    (c.is_private.ensures ops ∙ c.if-is_private.false)

pub returns-in-Err-clause-fault : goal.returns-in-Err-clause-fault
returns-in-Err-clause-fault c = λ ops.
    let texts = c.args.atoms.now in
    let ts = c.args.heap.now.now.terms in
    let t = tree texts ts c.args.clause in
    own_found (clause_error t) (is_private (as_database texts ops c.args.clauses.now)) not_changeable texts ts c.in-Err.fault (built.indicator_of (head_body t).head) c.in-Err.ensures.fault
