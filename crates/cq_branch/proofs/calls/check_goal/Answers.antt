use Rattle.std.proofs.Common.{◌∙◌, sym}
use Rattle.cq_term.specs.Trees.{tree}
use Rattle.cq_branch.proofs.Calling.{unbound_raises}
use Rattle.cq_branch.proofs.calls.check_goal.Goals as goal

pub returns-then-is_variable-clause-fault : goal.returns-then-is_variable-clause-fault
returns-then-is_variable-clause-fault c = λ p.
    unbound_raises p (tree c.args.atoms.now c.args.heap.now.now.terms c.args.goal) (sym (c.is_variable.ensures c.args.atoms.now) ∙ c.if-is_variable.true)
