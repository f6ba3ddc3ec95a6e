use Rattle.std.proofs.Common.{◌∷◌, [], sym, ◌∙◌, subst}
use Rattle.cq_write.specs.Work.{IsExpansion, one_word}
use Rattle.cq_write.specs.Settings.{setting}
use Rattle.cq_write.specs.Spelled.{written, put}
use Rattle.cq_write.specs.declared.jobs.Mark.TheVariants as mark
use Rattle.cq_write.specs.declared.jobs.Word.TheVariants as word
use Rattle.cq_write.specs.declared.jobs.Part.TheVariants as part
use Rattle.cq_write.specs.declared.jobs.Job.TheVariants as job
use Rattle.cq_write.proofs.Steps.{expands, on_ok}
use Rattle.cq_write.proofs.Begun.{begun_word}
use Rattle.cq_write.proofs.Expansions.{negative_made, numeral_made}
use Rattle.cq_write.proofs.writer.Writer.number.Goals as goal

pub returns-in_ok-push_mark : goal.returns-in_ok-push_mark
returns-in_ok-push_mark c =
    let s = setting c.args.self.now in
    let before = written c.args.line.now in
    let after = written c.numeral.new.line in
    let old = c.args.jobs.now.items in
    let new = c.numeral.new.jobs.items in
    expands s (part.Term c.args.term) (job.Word (word.Mark mark.Minus) ∷ job.Word (word.Numeral c.neg.result) ∷ []) before after old new c.numeral.result
    (subst (λ n. IsExpansion s (part.Term c.args.term) (job.Word (word.Mark mark.Minus) ∷ job.Word (word.Numeral n) ∷ [])) (sym c.neg.ensures)
    (negative_made s c.args.term c.args.number c.requires (sym c.is_negative.ensures ∙ c.if-is_negative.true)))
    (on_ok c.numeral.result (λ x. begun_word s before after old new (word.Mark mark.Minus) (one_word (word.Numeral c.neg.result)) (written c.push_mark.new.self) c.in_ok-push_mark.ensures x) c.numeral.ensures)

pub returns-else-is_negative : goal.returns-else-is_negative
returns-else-is_negative c =
    let s = setting c.args.self.now in
    expands s (part.Term c.args.term) (one_word (word.Numeral c.args.number)) (written c.args.line.now) (written c.numeral-else-is_negative.new.line) c.args.jobs.now.items c.numeral-else-is_negative.new.jobs.items c.numeral-else-is_negative.result
    (numeral_made s c.args.term c.args.number c.requires (sym c.is_negative.ensures ∙ c.if-is_negative.false))
    c.numeral-else-is_negative.ensures
