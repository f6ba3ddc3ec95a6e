use Rattle.std.proofs.Common.{◌≡◌, ◌∙◌, [], ap, refl, rules}
use Rattle.std.specs.Fmt.{signed_decimal}
use Rattle.spec_text.proofs.Decimals.{writes_integer}
use Rattle.cq_write.specs.Work.{one_word, plain}
use Rattle.cq_write.specs.Settings.{setting}
use Rattle.cq_write.specs.Spelled.{written, put}
use Rattle.cq_write.specs.declared.jobs.Mark.TheVariants as mark
use Rattle.cq_write.specs.declared.jobs.Word.TheVariants as word
use Rattle.cq_write.specs.declared.jobs.Part.TheVariants as part
use Rattle.cq_write.specs.declared.jobs.Job.TheVariants as job
use Rattle.cq_write.proofs.Steps.{on_ok}
use Rattle.cq_write.proofs.Begun.{begun_nothing, begun_one}
use Rattle.cq_write.proofs.writer.Writer.numeral.Goals as goal

pub returns-then-denominator-ne1 : goal.returns-then-denominator-ne1
returns-then-denominator-ne1 c =
    let line = written c.args.line.now in
    on_ok c.push_all.result
    (λ e. begun_nothing (setting c.args.self.now) line line c.args.jobs.now.items c.push_all.new.jobs.items (one_word (word.Numeral c.args.number)) e refl)
    c.push_all.ensures

pub returns : goal.returns
returns c =
    let line = written c.args.line.now in
    let parts = c.parts-numerator.ensures in
    let top : c.format.result.now ≡ signed_decimal c.parts-numerator.result.0 = search rules in
    let text = writes_integer c.args.number c.parts-numerator.result.0 c.parts-numerator.result.1 [] c.format.result.now parts.fits.num_fits parts.numerator parts.denominator c.if-denominator-ne1.false top in
    on_ok c.push_ascii.result
    (λ e. begun_one (setting c.args.self.now) line (written c.push_ascii.new.self) c.args.jobs.now.items c.args.jobs.now.items (word.Numeral c.args.number) refl (e ∙ ap (λ t. put line (plain t)) text))
    c.push_ascii.ensures
