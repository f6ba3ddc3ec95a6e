use Rattle.std.proofs.Common.{◌∷◌, [], ◌∙◌, ap, refl, sym}
use Rattle.cq_write.specs.Work.{functional_jobs, plain}
use Rattle.cq_write.specs.Settings.{setting}
use Rattle.cq_write.specs.Spelled.{written, put}
use Rattle.cq_write.specs.declared.jobs.Mark.TheVariants as mark
use Rattle.cq_write.specs.declared.jobs.Word.TheVariants as word
use Rattle.cq_write.specs.declared.jobs.Part.TheVariants as part
use Rattle.cq_write.specs.declared.jobs.Job.TheVariants as job
use Rattle.cq_write.proofs.Steps.{on_ok}
use Rattle.cq_write.proofs.Begun.{begun_nothing, begun_word}
use Rattle.cq_write.proofs.writer.Writer.functional.Goals as goal

pub returns-in_ok-push_mark-in-Some : goal.returns-in_ok-push_mark-in-Some
returns-in_ok-push_mark-in-Some c =
    let s = setting c.args.self.now in
    let before = written c.args.line.now in
    let name = written c.push_ascii.new.self in
    let after = written c.push_mark.new.self in
    let old = c.args.jobs.now.items in
    let new = c.push_all.new.jobs.items in
    let last = job.Part (part.Arguments c.args.term 0) ∷ job.Word (word.Mark mark.Close) ∷ [] in
    on_ok c.push_all.result
    (λ e. begun_word s before after old new (word.Name c.args.name) (job.Word (word.Mark mark.Open) ∷ last) name (c.in_ok-push_ascii-in-Some.ensures ∙ ap (λ t. put before (plain t)) (sym c.in-Some.ensures.same))
    (begun_word s name after old new (word.Mark mark.Open) last after c.in_ok-push_mark-in-Some.ensures (begun_nothing s after after old new last e refl)))
    c.push_all.ensures

pub returns-in-None : goal.returns-in-None
returns-in-None c =
    let line = written c.args.line.now in
    on_ok c.push_all-in-None.result
    (λ e. begun_nothing (setting c.args.self.now) line line c.args.jobs.now.items c.push_all-in-None.new.jobs.items (functional_jobs c.args.term c.args.name) e refl)
    c.push_all-in-None.ensures
