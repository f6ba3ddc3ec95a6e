use Rattle.spec_terms.specs.Term.{Number}
use Rattle.spec_terms.specs.Arithmetic.{evaluate}
use Rattle.cq_term.specs.Trees.{tree}
use Rattle.cq_built.proofs.Trees.{tree_last}
use Rattle.cq_goals.proofs.arithmetic.is_value.Goals as goal

pub returns-in-Ok-number-clause-value : goal.returns-in-Ok-number-clause-value
returns-in-Ok-number-clause-value c = record {
  number = c.in-Ok.value;
  value = c.in-Ok.ensures.value;
  term = tree_last c.args.atoms.now c.args.heap.now.now.terms c.number.new.self.now.terms (Number c.in-Ok.value) c.in-Ok-number.id c.in-Ok-number.ensures.terms c.in-Ok-number.ensures.id;
}

pub returns-in-Err-clause-fault : goal.returns-in-Err-clause-fault
returns-in-Err-clause-fault c =
    let texts = c.args.atoms.now in
    let ts = c.args.heap.now.now.terms in
    c.goal_fault.ensures.outcome texts ts (evaluate (tree texts ts c.args.expression)) c.in-Err.ensures.fault

pub returns-in-Err-clause-culprit : goal.returns-in-Err-clause-culprit
returns-in-Err-clause-culprit c = c.goal_fault.ensures.culprit c.args.atoms.now c.args.heap.now.now.terms c.in-Err.ensures.known
