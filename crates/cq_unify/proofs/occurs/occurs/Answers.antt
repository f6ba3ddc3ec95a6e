use Rattle.std.proofs.Common.{sym}
use Rattle.cq_term.specs.Meaning.{at}
use Rattle.cq_term.proofs.Arguments.{some_arguments}
use Rattle.cq_unify.proofs.occurs.occurs.Goals as goal

pub occurs_flat-requires-clause-compound : goal.occurs_flat-requires-clause-compound
occurs_flat-requires-clause-compound c = some_arguments (at c.args.heap.now.now.terms c.args.term) c.in-Compound.field-0 c.in-Compound.field-1 (sym c.in-Compound.ensures.view)
