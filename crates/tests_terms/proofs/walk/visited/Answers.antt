use Rattle.std.proofs.Common.{sym}
use Rattle.cq_term.specs.Meaning.{at}
use Rattle.cq_term.proofs.Arguments.{length-arguments}
use Rattle.tests_terms.proofs.walk.visited.Goals as goal

pub visit-requires-clause-arity : goal.visit-requires-clause-arity
visit-requires-clause-arity c = length-arguments (at c.args.heap.now.now.terms c.args.id) c.in-Compound.field-0 c.in-Compound.arity (sym c.in-Compound.ensures.view)
