use Rattle.std.proofs.Common.{◌∷◌, [], codes, true, false, refl}
use Rattle.cq_term.specs.Texts.{text_of}
use Rattle.cq_write.specs.Work.{one_word}
use Rattle.cq_write.specs.Settings.{setting}
use Rattle.cq_write.specs.Spelled.{written, put}
use Rattle.cq_write.specs.declared.jobs.Mark.TheVariants as mark
use Rattle.cq_write.specs.declared.jobs.Word.TheVariants as word
use Rattle.cq_write.specs.declared.jobs.Part.TheVariants as part
use Rattle.cq_write.specs.declared.jobs.Job.TheVariants as job
use Rattle.cq_write.proofs.Steps.{says, expands, on_ok}
use Rattle.cq_write.proofs.Begun.{begun_word, begun_one}
use Rattle.cq_write.proofs.Expansions.{nil_made, curly_made, atom_made}
use Rattle.cq_write.proofs.writer.Writer.atom.Goals as goal

pub returns-in_ok-push_mark : goal.returns-in_ok-push_mark
returns-in_ok-push_mark c =
    let s = setting c.args.self.now in
    let text = text_of s.texts c.args.name in
    let before = written c.args.line.now in
    let middle = written c.push_mark.new.self in
    let after = written c.push_mark-then-eq.new.self in
    let jobs = c.args.jobs.now.items in
    expands s (part.Term c.args.term) (job.Word (word.Mark mark.OpenList) ∷ job.Word (word.Mark mark.CloseList) ∷ []) before after jobs jobs c.push_mark-then-eq.result
    (nil_made s c.args.term c.args.name c.requires.0 (says c.text-text.result.now text (codes "[]") c.eq.result true c.text-text.ensures c.eq.ensures c.if-eq.true))
    (on_ok c.push_mark-then-eq.result (λ e. begun_word s before after jobs jobs (word.Mark mark.OpenList) (one_word (word.Mark mark.CloseList)) middle c.in_ok-push_mark.ensures (begun_one s middle after jobs jobs (word.Mark mark.CloseList) refl e)) c.push_mark-then-eq.ensures)

pub returns-in_ok-push_mark-2 : goal.returns-in_ok-push_mark-2
returns-in_ok-push_mark-2 c =
    let s = setting c.args.self.now in
    let text = text_of s.texts c.args.name in
    let before = written c.args.line.now in
    let middle = written c.push_mark-then-eq-2.new.self in
    let after = written c.push_mark-then-eq-2-2.new.self in
    let jobs = c.args.jobs.now.items in
    expands s (part.Term c.args.term) (job.Word (word.Mark mark.OpenCurly) ∷ job.Word (word.Mark mark.CloseCurly) ∷ []) before after jobs jobs c.push_mark-then-eq-2-2.result
    (curly_made s c.args.term c.args.name c.requires.0
    (says c.text-text.result.now text (codes "[]") c.eq.result false c.text-text.ensures c.eq.ensures c.if-eq.false)
    (says c.text-text.result.now text (codes "{}") c.eq-else-eq.result true c.text-text.ensures c.eq-else-eq.ensures c.if-eq-2.true))
    (on_ok c.push_mark-then-eq-2-2.result
    (λ e. begun_word s before after jobs jobs (word.Mark mark.OpenCurly) (one_word (word.Mark mark.CloseCurly)) middle c.in_ok-push_mark-2.ensures (begun_one s middle after jobs jobs (word.Mark mark.CloseCurly) refl e))
    c.push_mark-then-eq-2-2.ensures)

pub returns-else-eq-2 : goal.returns-else-eq-2
returns-else-eq-2 c =
    let s = setting c.args.self.now in
    let text = text_of s.texts c.args.name in
    expands s (part.Term c.args.term) (one_word (word.Name c.args.name)) (written c.args.line.now) (written c.name.new.line) c.args.jobs.now.items c.name.new.jobs.items c.name.result
    (atom_made s c.args.term c.args.name c.requires.0 c.requires.1
    (says c.text-text.result.now text (codes "[]") c.eq.result false c.text-text.ensures c.eq.ensures c.if-eq.false)
    (says c.text-text.result.now text (codes "{}") c.eq-else-eq.result false c.text-text.ensures c.eq-else-eq.ensures c.if-eq-2.false))
    c.name.ensures
