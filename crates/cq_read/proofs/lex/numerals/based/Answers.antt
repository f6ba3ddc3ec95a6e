use Rattle.cq_read.proofs.Readings.{based_wide}
use Rattle.cq_read.proofs.lex.numerals.based.Goals as goal

pub returns-in-None : goal.returns-in-None
returns-in-None c = based_wide c.args.base c.args.text.now c.in-None.ensures.value
