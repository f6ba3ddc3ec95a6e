use Rattle.std.proofs.Common.{◌∷◌, [], refl, sym, ◌∙◌}
use Rattle.cq_write.specs.Spelled.{written}
use Rattle.cq_write.specs.Work.{functional_jobs, tree}
use Rattle.cq_write.specs.Settings.{setting}
use Rattle.spec_syntax.specs.Operators.{right_most}
use Rattle.spec_syntax.specs.Writing.{is_bare_right}
use Rattle.cq_write.specs.declared.jobs.Word.TheVariants as word
use Rattle.cq_write.specs.declared.jobs.Part.TheVariants as part
use Rattle.cq_write.specs.declared.jobs.Job.TheVariants as job
use Rattle.cq_write.proofs.Steps.{expands, on_ok, operand_of}
use Rattle.cq_write.proofs.Begun.{begun_nothing}
use Rattle.cq_write.proofs.Expansions.{signed_made, prefix_made}
use Rattle.cq_write.proofs.writer.Writer.prefixed.Goals as goal

pub returns-then-is_signed : goal.returns-then-is_signed
returns-then-is_signed c =
    let s = setting c.args.self.now in
    expands s (part.Term c.args.term) (functional_jobs c.args.term c.args.name) (written c.args.line.now) (written c.functional.new.line) c.args.jobs.now.items c.functional.new.jobs.items c.functional.result
    (signed_made s c.args.term c.args.name c.args.operand c.args.op c.requires.shape.0 c.requires.shape.1 c.requires.known c.requires.no_braces c.requires.operator (sym c.is_signed.ensures ∙ c.if-is_signed.true))
    c.functional.ensures

pub returns : goal.returns
returns c =
    let s = setting c.args.self.now in
    let line = written c.args.line.now in
    let old = c.args.jobs.now.items in
    let new = c.push_all.new.jobs.items in
    let all = job.Word (word.Prefix c.args.name) ∷ c.operand_job.result ∷ [] in
    expands s (part.Term c.args.term) all line line old new c.push_all.result
    (prefix_made s c.args.term c.args.name c.args.operand c.args.op c.operand_job.result c.requires.shape.0 c.requires.shape.1 c.requires.no_braces c.requires.operator (sym c.is_signed.ensures ∙ c.if-is_signed.false)
    (operand_of s (is_bare_right s.ops (right_most c.args.op) (tree s c.args.operand)) c.is_bare_right-bare.result c.args.operand c.operand_job.result c.is_bare_right-bare.ensures (c.operand_job.ensures s c.requires.shape.2)))
    (on_ok c.push_all.result (λ e. begun_nothing s line line old new all e refl) c.push_all.ensures)
