use Rattle.cq_term.specs.Texts.{text_of}
use Rattle.cq_write.proofs.Steps.{text_there}
use Rattle.cq_write.proofs.writer.Writer.infix.Goals as goal

pub returns : goal.returns
returns c =
    let texts = c.args.self.now.atoms.now in
    c.infix.ensures.by_text texts (text_of texts c.args.name) c.text-text.ensures.different (text_there texts c.args.name c.requires)
