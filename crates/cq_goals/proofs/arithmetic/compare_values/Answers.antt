use Rattle.std.proofs.Common.{ap, ◌∙◌}
use Rattle.spec_terms.specs.Arithmetic.{evaluate}
use Rattle.spec_builtins.specs.Alternatives.{allows}
use Rattle.cq_term.specs.Trees.{tree}
use Rattle.cq_builtin.specs.Rows.{comparison_of}
use Rattle.cq_goals.proofs.Values.{left_fails, right_fails}
use Rattle.cq_goals.proofs.arithmetic.compare_values.Goals as goal

pub returns-in-Ok-eval-clause-holds : goal.returns-in-Ok-eval-clause-holds
returns-in-Ok-eval-clause-holds c = record {
  first = c.in-Ok.first;
  second = c.in-Ok-eval.second;
  left_is = c.in-Ok.ensures.value;
  right_is = c.in-Ok-eval.ensures.value;
  stands = c.is_allowed.ensures ∙ ap (allows (comparison_of c.args.comparison)) c.cmp.ensures;
}

pub returns-in-Err-eval-clause-fault : goal.returns-in-Err-eval-clause-fault
returns-in-Err-eval-clause-fault c =
    let texts = c.args.atoms.now in
    let ts = c.args.heap.now.now.terms in
    let right = evaluate (tree texts ts c.args.right) in
    right_fails texts ts (evaluate (tree texts ts c.args.left)) right c.in-Ok.first c.goal_fault.result c.in-Ok.ensures.value (c.goal_fault.ensures.outcome texts ts right c.in-Err-eval.ensures.fault)

pub returns-in-Err-eval-clause-culprit : goal.returns-in-Err-eval-clause-culprit
returns-in-Err-eval-clause-culprit c = c.goal_fault.ensures.culprit c.args.atoms.now c.args.heap.now.now.terms c.in-Err-eval.ensures.known

pub returns-in-Err-clause-fault : goal.returns-in-Err-clause-fault
returns-in-Err-clause-fault c =
    let texts = c.args.atoms.now in
    let ts = c.args.heap.now.now.terms in
    let left = evaluate (tree texts ts c.args.left) in
    left_fails texts ts left (evaluate (tree texts ts c.args.right)) c.goal_fault-in-Err.result (c.goal_fault-in-Err.ensures.outcome texts ts left c.in-Err.ensures.fault)

pub returns-in-Err-clause-culprit : goal.returns-in-Err-clause-culprit
returns-in-Err-clause-culprit c = c.goal_fault-in-Err.ensures.culprit c.args.atoms.now c.args.heap.now.now.terms c.in-Err.ensures.known
