use Rattle.std.proofs.Common.{◌∷◌, [], refl, sym, subst}
use Rattle.std.specs.Prelude.{OnOk}
use Rattle.cq_write.specs.Spelled.{written}
use Rattle.cq_write.specs.Work.{Expands, IsReadyPart}
use Rattle.cq_write.specs.Settings.{setting}
use Rattle.cq_write.specs.declared.jobs.Mark.TheVariants as mark
use Rattle.cq_write.specs.declared.jobs.Word.TheVariants as word
use Rattle.cq_write.specs.declared.jobs.Part.TheVariants as part
use Rattle.cq_write.specs.declared.jobs.Job.TheVariants as job
use Rattle.cq_write.proofs.Steps.{expands, on_ok}
use Rattle.cq_write.proofs.Begun.{begun_nothing, begun_word}
use Rattle.cq_write.proofs.Expansions.{enclosed_made}
use Rattle.cq_write.proofs.writer.Writer.expand.Goals as goal

pub returns-in_ok-push_mark-in-Enclosed : goal.returns-in_ok-push_mark-in-Enclosed
returns-in_ok-push_mark-in-Enclosed c =
    let s = setting c.args.self.now in
    let before = written c.args.line.now in
    let after = written c.push_mark.new.self in
    let old = c.args.jobs.now.items in
    let new = c.push_all.new.jobs.items in
    let last = job.Part (part.Term c.in-Enclosed.term) ∷ job.Word (word.Mark mark.Close) ∷ [] in
    subst (λ p. OnOk c.push_all.result (Expands s p before after old new)) (sym c.in-Enclosed.is)
    (expands s (part.Enclosed c.in-Enclosed.term) (job.Word (word.Mark mark.Open) ∷ last) before after old new c.push_all.result
    (enclosed_made s c.in-Enclosed.term (subst (IsReadyPart s) c.in-Enclosed.is c.requires))
    (on_ok c.push_all.result (λ e. begun_word s before after old new (word.Mark mark.Open) last after c.in_ok-push_mark-in-Enclosed.ensures (begun_nothing s after after old new last e refl)) c.push_all.ensures))
