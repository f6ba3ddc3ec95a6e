use Rattle.std.proofs.Common.{sym}
use Rattle.cq_term.specs.Meaning.{at}
use Rattle.cq_term.proofs.Arguments.{length-arguments}
use Rattle.cq_write.proofs.writer.Writer.arity.Goals as goal

pub returns-in-Compound : goal.returns-in-Compound
returns-in-Compound c = sym (length-arguments (at c.args.self.now.heap.now.now.terms c.args.term) c.in-Compound.field-0 c.in-Compound.arity (sym c.in-Compound.ensures.view))
