use Rattle.std.proofs.Common.{sym}
use Rattle.cq_term.specs.Meaning.{at}
use Rattle.cq_term.proofs.Arguments.{some_arguments}
use Rattle.cq_resolve.proofs.stored.first.first_argument.Goals as goal

pub arg-requires-clause-within : goal.arg-requires-clause-within
arg-requires-clause-within c = some_arguments (at c.args.heap.now.now.terms c.args.goal) c.in-Compound.field-0 c.in-Compound.field-1 (sym c.in-Compound.ensures.view)
