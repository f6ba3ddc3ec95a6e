use Rattle.std.proofs.Common.{◌∷◌, [], sym}
use Rattle.cq_write.specs.Spelled.{written}
use Rattle.cq_write.specs.Work.{functional_jobs, tree}
use Rattle.cq_write.specs.Settings.{setting}
use Rattle.spec_syntax.specs.Operators.{right_most}
use Rattle.spec_syntax.specs.Writing.{is_bare_right, is_bare_left}
use Rattle.cq_write.specs.declared.jobs.Word.TheVariants as word
use Rattle.cq_write.specs.declared.jobs.Part.TheVariants as part
use Rattle.cq_write.specs.declared.jobs.Job.TheVariants as job
use Rattle.cq_write.proofs.Steps.{expands, on_ok, operand_of}
use Rattle.cq_write.proofs.Begun.{begun_below}
use Rattle.cq_write.proofs.Expansions.{infix_made, functional_binary_made}
use Rattle.cq_write.proofs.writer.Writer.binary.Goals as goal

pub returns-in_ok-push_all-in-Some : goal.returns-in_ok-push_all-in-Some
returns-in_ok-push_all-in-Some c =
    let s = setting c.args.self.now in
    let before = written c.args.line.now in
    let after = written c.operand.new.line in
    let old = c.args.jobs.now.items in
    let new = c.operand.new.jobs.items in
    let last = job.Word (word.Infix c.args.name) ∷ c.operand_job-right.result ∷ [] in
    on_ok c.operand.result
    (λ made. (
      made.0 ∷ last,
      infix_made s c.args.term c.args.name c.args.left c.args.right c.in-Some.op made.0 c.operand_job-right.result c.requires.shape.0 c.requires.shape.1 c.requires.no_cell (sym c.in-Some.ensures)
          (operand_of s (is_bare_left s.ops c.in-Some.op (tree s c.args.left)) c.is_bare_left-bare.result c.args.left made.0 c.is_bare_left-bare.ensures made.1)
          (operand_of s (is_bare_right s.ops (right_most c.in-Some.op) (tree s c.args.right)) c.is_bare_right.result c.args.right c.operand_job-right.result c.is_bare_right.ensures (c.operand_job-right.ensures s c.requires.shape.3)),
      begun_below s before after old new (made.0 ∷ []) last c.push_all.new.jobs.items c.in_ok-push_all-in-Some.ensures made.2,
    ))
    c.operand.ensures

pub returns-in-None : goal.returns-in-None
returns-in-None c =
    let s = setting c.args.self.now in
    expands s (part.Term c.args.term) (functional_jobs c.args.term c.args.name) (written c.args.line.now) (written c.functional.new.line) c.args.jobs.now.items c.functional.new.jobs.items c.functional.result
    (functional_binary_made s c.args.term c.args.name c.args.left c.args.right c.requires.shape.0 c.requires.shape.1 c.requires.known c.requires.no_cell (sym c.in-None.ensures))
    c.functional.ensures
