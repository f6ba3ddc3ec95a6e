use Rattle.std.proofs.Common.{◌∷◌, [], codes, true, false, refl, sym}
use Rattle.cq_term.specs.Texts.{text_of}
use Rattle.cq_write.specs.Spelled.{written}
use Rattle.cq_write.specs.Work.{functional_jobs, tree}
use Rattle.cq_write.specs.Settings.{setting}
use Rattle.spec_syntax.specs.Writing.{is_bare_left}
use Rattle.cq_write.specs.declared.jobs.Mark.TheVariants as mark
use Rattle.cq_write.specs.declared.jobs.Word.TheVariants as word
use Rattle.cq_write.specs.declared.jobs.Part.TheVariants as part
use Rattle.cq_write.specs.declared.jobs.Job.TheVariants as job
use Rattle.cq_write.proofs.Steps.{says, expands, on_ok, operand_of}
use Rattle.cq_write.proofs.Begun.{begun_nothing, begun_word}
use Rattle.cq_write.proofs.Expansions.{braces_made, postfix_made, unary_made}
use Rattle.cq_write.proofs.writer.Writer.unary.Goals as goal

pub returns-then-eq : goal.returns-then-eq
returns-then-eq c =
    let s = setting c.args.self.now in
    let before = written c.args.line.now in
    let after = written c.push_mark.new.self in
    let old = c.args.jobs.now.items in
    let new = c.push_all.new.jobs.items in
    let last = job.Part (part.Term c.args.argument) ∷ job.Word (word.Mark mark.CloseCurly) ∷ [] in
    expands s (part.Term c.args.term) (job.Word (word.Mark mark.OpenCurly) ∷ last) before after old new c.push_all.result
    (braces_made s c.args.term c.args.name c.args.argument c.requires.shape.0 c.requires.shape.2 (says c.text.result.now (text_of s.texts c.args.name) (codes "{}") c.eq.result true c.text.ensures c.eq.ensures c.if-eq.true))
    (on_ok c.push_all.result (λ e. begun_word s before after old new (word.Mark mark.OpenCurly) last after c.in_ok-push_mark.ensures (begun_nothing s after after old new last e refl)) c.push_all.ensures)

pub returns-in-Some-postfix : goal.returns-in-Some-postfix
returns-in-Some-postfix c =
    let s = setting c.args.self.now in
    let line = written c.args.line.now in
    let old = c.args.jobs.now.items in
    let new = c.push_all-in-Some-postfix.new.jobs.items in
    let all = c.operand_job.result ∷ job.Word (word.Name c.args.name) ∷ [] in
    expands s (part.Term c.args.term) all line line old new c.push_all-in-Some-postfix.result
    (postfix_made s c.args.term c.args.name c.args.argument c.in-Some-postfix.op c.operand_job.result c.requires.shape.0 c.requires.shape.1 (says c.text.result.now (text_of s.texts c.args.name) (codes "{}") c.eq.result false c.text.ensures c.eq.ensures c.if-eq.false) (sym c.in_default.ensures) (sym c.in-Some-postfix.ensures)
    (operand_of s (is_bare_left s.ops c.in-Some-postfix.op (tree s c.args.argument)) c.is_bare_left-bare.result c.args.argument c.operand_job.result c.is_bare_left-bare.ensures (c.operand_job.ensures s c.requires.shape.2)))
    (on_ok c.push_all-in-Some-postfix.result (λ e. begun_nothing s line line old new all e refl) c.push_all-in-Some-postfix.ensures)

pub returns-in-None : goal.returns-in-None
returns-in-None c =
    let s = setting c.args.self.now in
    expands s (part.Term c.args.term) (functional_jobs c.args.term c.args.name) (written c.args.line.now) (written c.functional.new.line) c.args.jobs.now.items c.functional.new.jobs.items c.functional.result
    (unary_made s c.args.term c.args.name c.args.argument c.requires.shape.0 c.requires.shape.1 c.requires.known (says c.text.result.now (text_of s.texts c.args.name) (codes "{}") c.eq.result false c.text.ensures c.eq.ensures c.if-eq.false) (sym c.in_default.ensures) (sym c.in-None.ensures))
    c.functional.ensures
