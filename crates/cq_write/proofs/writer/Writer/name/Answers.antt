use Rattle.std.proofs.Common.{◌∙◌, ap, refl, sym}
use Rattle.cq_write.specs.Work.{one_word, plain}
use Rattle.cq_write.specs.Settings.{setting}
use Rattle.cq_write.specs.Spelled.{written, put}
use Rattle.cq_write.specs.declared.jobs.Mark.TheVariants as mark
use Rattle.cq_write.specs.declared.jobs.Word.TheVariants as word
use Rattle.cq_write.specs.declared.jobs.Part.TheVariants as part
use Rattle.cq_write.specs.declared.jobs.Job.TheVariants as job
use Rattle.cq_write.proofs.Steps.{on_ok}
use Rattle.cq_write.proofs.Begun.{begun_nothing, begun_one}
use Rattle.cq_write.proofs.writer.Writer.name.Goals as goal

pub returns-in-Some : goal.returns-in-Some
returns-in-Some c =
    let line = written c.args.line.now in
    on_ok c.push_ascii.result
    (λ e. begun_one (setting c.args.self.now) line (written c.push_ascii.new.self) c.args.jobs.now.items c.args.jobs.now.items (word.Name c.args.name) refl (e ∙ ap (λ t. put line (plain t)) (sym c.in-Some.ensures.same)))
    c.push_ascii.ensures

pub returns-in-None : goal.returns-in-None
returns-in-None c =
    let line = written c.args.line.now in
    on_ok c.push_all.result
    (λ e. begun_nothing (setting c.args.self.now) line line c.args.jobs.now.items c.push_all.new.jobs.items (one_word (word.Name c.args.name)) e refl)
    c.push_all.ensures
