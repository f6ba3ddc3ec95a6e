use Rattle.std.proofs.Common.{sym, subst}
use Rattle.cq_term.specs.Meaning.{at}
use Rattle.cq_goals.specs.ArithFaults.{ComesTo}
use Rattle.cq_goals.specs.Work.{evaluated_at}
use Rattle.cq_goals.proofs.Steps.{too_many}
use Rattle.cq_goals.proofs.arith.evaluation.visit.Goals as goal

pub returns-else-arity-eq2-clause-fault : goal.returns-else-arity-eq2-clause-fault
returns-else-arity-eq2-clause-fault c =
    subst (ComesTo c.args.atoms.now (evaluated_at c.args.atoms.now c.args.heap.now.now.terms c.args.id)) (sym c.not_evaluable-else-arity-eq2.ensures)
    (too_many c.args.atoms.now (at c.args.heap.now.now.terms c.args.id) c.in-Compound.name c.in-Compound.arity (sym c.in-Compound.ensures.view) c.if-arity-eq1.false c.if-arity-eq2.false)
