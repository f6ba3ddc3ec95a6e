use Rattle.std.proofs.Common.{◌≡◌, ◌∷◌, [], ◌∙◌, Bool, true, false, ap, refl, sym, arith}
use Rattle.spec_text.specs.Pieces.{unless}
use Rattle.cq_write.specs.Work.{IsKnown, IsOperand, Setting}
use Rattle.cq_write.specs.Settings.{setting}
use Rattle.cq_write.specs.Spelled.{written, put}
use Rattle.cq_write.specs.declared.jobs.Mark.TheVariants as mark
use Rattle.cq_write.specs.declared.jobs.Word.TheVariants as word
use Rattle.cq_write.specs.declared.jobs.Part.TheVariants as part
use Rattle.cq_write.specs.declared.jobs.Job.TheVariants as job
use Rattle.cq_write.proofs.Steps.{on_ok, enclosed_operand, bare_operand}
use Rattle.cq_write.proofs.Begun.{begun_nothing, begun_term}
use Rattle.cq_write.proofs.writer.Writer.operand.Goals as goal

pub returns-else-bare : goal.returns-else-bare
returns-else-bare c =
    let line = written c.args.line.now in
    let s = setting c.args.self.now in
    let j = job.Part (part.Enclosed c.args.term) in
    on_ok c.push_all-else-bare.result
    (λ e. (j, enclosed_operand s c.args.bare c.args.term c.if-bare.false c.requires, begun_nothing s line line c.args.jobs.now.items c.push_all-else-bare.new.jobs.items (j ∷ []) e refl))
    c.push_all-else-bare.ensures

pub returns-in-Number : goal.returns-in-Number
returns-in-Number c =
    let s = setting c.args.self.now in
    on_ok c.number.result
    (λ x. (job.Part (part.Term c.args.term), bare_operand s c.args.bare c.args.term c.if-bare.true c.requires, begun_term s (written c.args.line.now) (written c.number.new.line) c.args.jobs.now.items c.number.new.jobs.items c.args.term x))
    c.number.ensures

pub returns-in-Name : goal.returns-in-Name
returns-in-Name c =
    let s = setting c.args.self.now in
    on_ok c.atom.result
    (λ x. (job.Part (part.Term c.args.term), bare_operand s c.args.bare c.args.term c.if-bare.true c.requires, begun_term s (written c.args.line.now) (written c.atom.new.line) c.args.jobs.now.items c.atom.new.jobs.items c.args.term x))
    c.atom.ensures

pub returns-in_default : goal.returns-in_default
returns-in_default c =
    let line = written c.args.line.now in
    let s = setting c.args.self.now in
    let j = job.Part (part.Term c.args.term) in
    on_ok c.push_all.result
    (λ e. (j, bare_operand s c.args.bare c.args.term c.if-bare.true c.requires, begun_nothing s line line c.args.jobs.now.items c.push_all.new.jobs.items (j ∷ []) e refl))
    c.push_all.ensures
