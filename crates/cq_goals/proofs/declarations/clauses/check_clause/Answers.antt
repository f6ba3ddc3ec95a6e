use Rattle.std.proofs.Common.{◌∙◌, ap}
use Rattle.spec_builtins.specs.Errors.{or_error}
use Rattle.spec_builtins.specs.Clauses.{clause_error}
use Rattle.cq_term.specs.Trees.{tree}
use Rattle.cq_built.proofs.SidesErrors.{neither, found_same, found_then}
use Rattle.cq_goals.specs.Clauses.{head_error, body_error, body_tree}
use Rattle.cq_goals.proofs.Bodies.{clause_in_turn}
use Rattle.cq_goals.proofs.declarations.clauses.check_clause.Goals as goal

pub returns-in-Err-clause-fault : goal.returns-in-Err-clause-fault
returns-in-Err-clause-fault c =
    let texts = c.args.atoms.now in
    let ts = c.args.heap.now.now.terms in
    let p = c.parts_of-parts.result in
    clause_in_turn texts ts c.args.clause p c.parts_of-parts.ensures ∙ ap (λ o. or_error o (body_error (body_tree texts ts p.body))) c.in-Err.ensures.error

pub returns-in-Ok-check_body-clause-lawful : goal.returns-in-Ok-check_body-clause-lawful
returns-in-Ok-check_body-clause-lawful c =
    let texts = c.args.atoms.now in
    let ts = c.args.heap.now.now.terms in
    let p = c.parts_of-parts.result in
    clause_in_turn texts ts c.args.clause p c.parts_of-parts.ensures ∙ neither (head_error (tree texts ts p.head)) (body_error (body_tree texts ts p.body)) c.in-Ok.ensures.lawful c.in-Ok-check_body.ensures.lawful

pub returns-in-Err-check_body-clause-fault : goal.returns-in-Err-check_body-clause-fault
returns-in-Err-check_body-clause-fault c =
    let texts = c.args.atoms.now in
    let ts = c.args.heap.now.now.terms in
    let p = c.parts_of-parts.result in
    let h = head_error (tree texts ts p.head) in
    let b = body_error (body_tree texts ts p.body) in
    found_same texts ts (clause_error (tree texts ts c.args.clause)) (or_error h b) c.in-Err-check_body.fault (clause_in_turn texts ts c.args.clause p c.parts_of-parts.ensures)
    (found_then texts ts h b c.in-Err-check_body.fault c.in-Ok.ensures.lawful c.in-Err-check_body.ensures.fault)
