use Rattle.std.proofs.Common.{◌∙◌, ap, sym, codes, true, false}
use Rattle.cq_term.specs.Texts.{text_of}
use Rattle.cq_write.specs.Settings.{setting}
use Rattle.cq_write.specs.Spelled.{written, put}
use Rattle.cq_write.specs.Work.{infix_word}
use Rattle.cq_write.proofs.Steps.{on_ok, says}
use Rattle.cq_write.proofs.writer.Writer.write_infix.Goals as goal

pub returns-then-eq : goal.returns-then-eq
returns-then-eq c =
    let s = setting c.args.self.now in
    let f = text_of s.texts c.args.name in
    on_ok c.push_mark.result
    (λ e. e ∙ ap (λ b. put (written c.args.line.now) (infix_word s.style b f)) (sym (says c.text.result.now f (codes ",") c.eq.result true c.text.ensures c.eq.ensures c.if-eq.true)))
    c.push_mark.ensures

pub returns-else-eq : goal.returns-else-eq
returns-else-eq c =
    let s = setting c.args.self.now in
    let f = text_of s.texts c.args.name in
    on_ok c.write_operator.result
    (λ e. e ∙ ap (λ b. put (written c.args.line.now) (infix_word s.style b f)) (sym (says c.text.result.now f (codes ",") c.eq.result false c.text.ensures c.eq.ensures c.if-eq.false)))
    c.write_operator.ensures
