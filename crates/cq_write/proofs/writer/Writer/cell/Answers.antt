use Rattle.std.proofs.Common.{◌∷◌, []}
use Rattle.cq_write.specs.Work.{tree}
use Rattle.spec_syntax.specs.Writing.{is_bare_argument}
use Rattle.cq_write.specs.Settings.{setting}
use Rattle.cq_write.specs.Spelled.{written}
use Rattle.cq_write.specs.declared.jobs.Mark.TheVariants as mark
use Rattle.cq_write.specs.declared.jobs.Word.TheVariants as word
use Rattle.cq_write.specs.declared.jobs.Part.TheVariants as part
use Rattle.cq_write.specs.declared.jobs.Job.TheVariants as job
use Rattle.cq_write.proofs.Steps.{on_ok, operand_of}
use Rattle.cq_write.proofs.Begun.{begun_word, begun_below}
use Rattle.cq_write.proofs.writer.Writer.cell.Goals as goal

pub returns : goal.returns
returns c =
    let s = setting c.args.self.now in
    let before = written c.args.line.now in
    let middle = written c.push_mark.new.self in
    let after = written c.operand.new.line in
    let old = c.args.jobs.now.items in
    let new = c.operand.new.jobs.items in
    let last = job.Part (part.Rest c.args.rest) ∷ [] in
    on_ok c.operand.result
    (λ made. (
      made.0,
      operand_of s (is_bare_argument s.ops (tree s c.args.element)) c.is_bare_argument-bare.result c.args.element made.0 c.is_bare_argument-bare.ensures made.1,
      begun_word s before after old new (word.Mark c.args.opens) (made.0 ∷ last) middle c.in_ok-push_mark.ensures
          (begun_below s middle after old new (made.0 ∷ []) last c.push_all.new.jobs.items c.in_ok-push_all.ensures made.2),
    ))
    c.operand.ensures
