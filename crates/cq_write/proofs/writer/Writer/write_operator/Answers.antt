use Rattle.std.proofs.Common.{◌∙◌, ap, true, false}
use Rattle.cq_term.specs.Texts.{text_of}
use Rattle.cq_write.specs.Settings.{setting}
use Rattle.cq_write.specs.Spelled.{written, put}
use Rattle.cq_write.proofs.Steps.{on_ok}
use Rattle.cq_write.proofs.Bare.{operator_bare}
use Rattle.cq_write.proofs.writer.Writer.write_operator.Goals as goal

pub returns-in-Letters : goal.returns-in-Letters
returns-in-Letters c =
    let s = setting c.args.self.now in
    on_ok c.push_ascii.result
    (λ e. e ∙ ap (put (written c.args.line.now)) (operator_bare s.style c.text-operator.result.now (text_of s.texts c.args.name) true c.text-operator.ensures c.in-Letters.ensures))
    c.push_ascii.ensures

pub returns-in-Symbols : goal.returns-in-Symbols
returns-in-Symbols c =
    let s = setting c.args.self.now in
    on_ok c.push_ascii-in-Symbols.result
    (λ e. e ∙ ap (put (written c.args.line.now)) (operator_bare s.style c.text-operator.result.now (text_of s.texts c.args.name) false c.text-operator.ensures c.in-Symbols.ensures))
    c.push_ascii-in-Symbols.ensures
