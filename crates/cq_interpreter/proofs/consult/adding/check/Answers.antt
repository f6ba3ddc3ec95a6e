use Rattle.std.proofs.Common.{◌∙◌, sym}
use Rattle.spec_builtins.specs.Built as built
use Rattle.spec_builtins.specs.Clauses.{head_body, clause_error, not_changeable}
use Rattle.spec_search.specs.Builtins.{is_built_in}
use Rattle.cq_term.specs.Trees.{tree}
use Rattle.cq_built.specs.Errors.{indicator_of}
use Rattle.cq_catch.proofs.Refused.{own_found, refused_then, lawful_then, predicate_is}
use Rattle.cq_interpreter.proofs.consult.adding.check.Goals as goal

pub returns-then-is_built_in-clause-fault : goal.returns-then-is_built_in-clause-fault
returns-then-is_built_in-clause-fault c =
    let texts = c.args.atoms.now in
    let ts = c.args.heap.now.now.terms in
    let t = tree texts ts c.args.clause in
    let found = c.in-Ok.checked in
    refused_then (clause_error t) is_built_in not_changeable (indicator_of texts found.predicate) (built.indicator_of (head_body t).head)
    (predicate_is texts ts c.args.clause found.parts found.predicate c.in-Ok.ensures.parts c.in-Ok.ensures.predicate) c.in-Ok.ensures.lawful
    (sym c.is_built_in.ensures ∙ c.if-is_built_in.true)

pub returns-else-is_built_in-clause-lawful : goal.returns-else-is_built_in-clause-lawful
returns-else-is_built_in-clause-lawful c =
    let texts = c.args.atoms.now in
    let ts = c.args.heap.now.now.terms in
    let t = tree texts ts c.args.clause in
    let found = c.in-Ok.checked in
    lawful_then (clause_error t) is_built_in not_changeable (indicator_of texts found.predicate) (built.indicator_of (head_body t).head)
    (predicate_is texts ts c.args.clause found.parts found.predicate c.in-Ok.ensures.parts c.in-Ok.ensures.predicate) c.in-Ok.ensures.lawful
    (sym c.is_built_in.ensures ∙ c.if-is_built_in.false)

pub returns-in-Err-clause-fault : goal.returns-in-Err-clause-fault
returns-in-Err-clause-fault c =
    let texts = c.args.atoms.now in
    let ts = c.args.heap.now.now.terms in
    let t = tree texts ts c.args.clause in
    own_found (clause_error t) is_built_in not_changeable texts ts c.in-Err.fault (built.indicator_of (head_body t).head) c.in-Err.ensures.fault
