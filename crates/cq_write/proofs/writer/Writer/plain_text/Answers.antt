use Rattle.cq_write.specs.Settings.{setting}
use Rattle.cq_write.proofs.Bare.{plain_by}
use Rattle.cq_write.proofs.writer.Writer.plain_text.Goals as goal

pub returns-in-Letters : goal.returns-in-Letters
returns-in-Letters c = plain_by (setting c.args.self.now) c.args.name c.text-text.result.now c.looks_of.result c.text-text.ensures c.looks_of.ensures c.in-Letters.is
