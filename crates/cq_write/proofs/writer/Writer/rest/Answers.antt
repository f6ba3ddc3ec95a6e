use Rattle.std.proofs.Common.{◌∷◌, [], refl}
use Rattle.cq_write.specs.Spelled.{written}
use Rattle.cq_write.specs.Work.{one_word, cell_jobs, tree}
use Rattle.cq_write.specs.Settings.{setting}
use Rattle.spec_syntax.specs.Writing.{is_bare_argument}
use Rattle.cq_write.specs.declared.jobs.Mark.TheVariants as mark
use Rattle.cq_write.specs.declared.jobs.Word.TheVariants as word
use Rattle.cq_write.specs.declared.jobs.Part.TheVariants as part
use Rattle.cq_write.specs.declared.jobs.Job.TheVariants as job
use Rattle.cq_write.proofs.Steps.{expands, on_ok, operand_of}
use Rattle.cq_write.proofs.Begun.{begun_one, begun_word, begun_below}
use Rattle.cq_write.proofs.Expansions.{rest_end_made, rest_cell_made, rest_other_made}
use Rattle.cq_write.proofs.writer.Writer.rest.Goals as goal

pub returns-in-End : goal.returns-in-End
returns-in-End c =
    let s = setting c.args.self.now in
    let before = written c.args.line.now in
    let after = written c.push_mark.new.self in
    let jobs = c.args.jobs.now.items in
    expands s (part.Rest c.args.term) (one_word (word.Mark mark.CloseList)) before after jobs jobs c.push_mark.result
    (let tail = c.in-End.ensures in rest_end_made s c.args.term tail.0 tail.1 tail.2)
    (on_ok c.push_mark.result (λ e. begun_one s before after jobs jobs (word.Mark mark.CloseList) refl e) c.push_mark.ensures)

pub returns-in-Cell : goal.returns-in-Cell
returns-in-Cell c =
    let s = setting c.args.self.now in
    let tail = c.in-Cell.ensures in
    on_ok c.cell.result
    (λ made. (
      cell_jobs mark.Comma made.0 c.in-Cell.rest,
      rest_cell_made s c.args.term tail.0 c.in-Cell.element c.in-Cell.rest made.0 tail.1 tail.4 tail.2 made.1,
      made.2,
    ))
    c.cell.ensures

pub returns-in_ok-push_all-in-Other : goal.returns-in_ok-push_all-in-Other
returns-in_ok-push_all-in-Other c =
    let s = setting c.args.self.now in
    let before = written c.args.line.now in
    let middle = written c.push_mark-in-Other.new.self in
    let after = written c.operand.new.line in
    let old = c.args.jobs.now.items in
    let new = c.operand.new.jobs.items in
    let last = one_word (word.Mark mark.CloseList) in
    on_ok c.operand.result
    (λ made. (
      job.Word (word.Mark mark.Bar) ∷ made.0 ∷ last,
      rest_other_made s c.args.term made.0 c.in-Other.ensures
          (operand_of s (is_bare_argument s.ops (tree s c.args.term)) c.is_bare_argument-bare.result c.args.term made.0 c.is_bare_argument-bare.ensures made.1),
      begun_word s before after old new (word.Mark mark.Bar) (made.0 ∷ last) middle c.in_ok-push_mark-in-Other.ensures
          (begun_below s middle after old new (made.0 ∷ []) last c.push_all.new.jobs.items c.in_ok-push_all-in-Other.ensures made.2),
    ))
    c.operand.ensures
