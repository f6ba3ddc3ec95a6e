use Rattle.std.proofs.Common.{◌≡◌, ◌++◌, ◌∷◌, [], ◌∙◌, ap, sym, reverse, take, ◌-◌, append-nil}
use Rattle.std.specs.Prelude.{nat_le, filter}
use Rattle.spec_terms.proofs.RenamedVariables.{variables_named}
use Rattle.spec_text.specs.Written.{shown, is_unnamed, text_by}
use Rattle.cq_term.specs.Meaning.{at}
use Rattle.cq_term.specs.Texts.{text_of}
use Rattle.cq_term.specs.Trees.{tree}
use Rattle.cq_write.specs.Spelled.{written, put_all}
use Rattle.cq_write.specs.Work.{all_pieces}
use Rattle.cq_write.specs.Settings.{setting}
use Rattle.cq_write.specs.declared.writer.Writer.{Writer}
use Rattle.cq_write.specs.declared.jobs.Job.TheVariants as job
use Rattle.cq_write.proofs.Loop.{begins, ready_pop, part_text, part_ready, part_lighter, nothing_left}
use Rattle.cq_write.proofs.write_term.Goals as goal

pub loop-job-init : goal.loop-job-init
loop-job-init c =
    let w : Writer = record { heap = c.args.heap; atoms = c.args.atoms; ops = c.args.ops; style = c.args.style; names = c.in_ok-new.field-0 } in
    let s = setting w in
    let b = begins s c.args.term c.args.priority (nat_le c.priority.result c.args.priority) c.operand_job.result c.in_ok-jobs.jobs.items c.in_ok-jobs.ensures.items (ap (λ p. nat_le p c.args.priority) c.priority.ensures)
    (c.operand_job.ensures s (record { live = c.requires.live; names = c.requires.names })) in
    record { ready = b.0; text = ap (λ l. (put_all l (all_pieces s (reverse c.in_ok-jobs.jobs.items))).text) c.new-line.ensures ∙ b.1 }

pub loop-job-smaller : goal.loop-job-smaller
loop-job-smaller c =
    let w : Writer = record { heap = c.args.heap; atoms = c.args.atoms; ops = c.args.ops; style = c.args.style; names = c.in_ok-new.field-0 } in
    let e : c.loop-job.jobs.items ≡ c.pop.new.self.items ++ job.Part c.in-Part.part ∷ [] = c.in-Some.ensures.items ∙ ap (λ j. c.pop.new.self.items ++ j ∷ []) c.in-Part.is in
    part_lighter (setting w) (written c.loop-job.line) (written c.expand.new.line) c.loop-job.jobs.items c.pop.new.self.items c.expand.new.jobs.items c.in-Part.part e c.in_ok-expand-in-Part.ensures

pub loop-job-preserved : goal.loop-job-preserved
loop-job-preserved c =
    let w : Writer = record { heap = c.args.heap; atoms = c.args.atoms; ops = c.args.ops; style = c.args.style; names = c.in_ok-new.field-0 } in
    let s = setting w in
    let before = written c.loop-job.line in
    let after = written c.expand.new.line in
    let old = c.loop-job.jobs.items in
    let rest = c.pop.new.self.items in
    let e : c.loop-job.jobs.items ≡ c.pop.new.self.items ++ job.Part c.in-Part.part ∷ [] = c.in-Some.ensures.items ∙ ap (λ j. c.pop.new.self.items ++ j ∷ []) c.in-Part.is in
    let x = c.in_ok-expand-in-Part.ensures in
    record {
      ready = part_ready s before after old rest c.expand.new.jobs.items c.in-Part.part e x (ready_pop s old rest (job.Part c.in-Part.part) e c.loop-job.invariant.ready).1;
      text = ap (λ line. line.text) (part_text s before after old rest c.expand.new.jobs.items c.in-Part.part e x) ∙ c.loop-job.invariant.text;
    }

pub returns : goal.returns
returns c =
    let w : Writer = record { heap = c.args.heap; atoms = c.args.atoms; ops = c.args.ops; style = c.args.style; names = c.in_ok-new.field-0 } in
    let s = setting w in
    let t = tree c.args.atoms.now c.args.heap.now.now.terms c.args.term in
    let names = c.in_ok-new.ensures.names in
    let unnamed = c.in_ok-new.ensures.unnamed ∙ ap (filter (is_unnamed c.args.names.now)) (sym (variables_named (text_of c.args.atoms.now) (at c.args.heap.now.now.terms c.args.term))) in
    let old = c.loop-job.jobs.items in
    let none : old ≡ [] = c.in_default.ensures.items ∙ append-nil c.pop.new.self.items ∙ c.in_default.ensures.rest ∙ ap (λ n. take (n - 1) old) c.in_default.ensures.cases.0 in
    ap (λ line. line.items) c.into_text.ensures
    ∙ sym (nothing_left s (written c.loop-job.line) old none)
    ∙ c.loop-job.invariant.text
    ∙ ap (λ name. text_by c.args.style s.ops name c.args.priority t) (λ i v. shown (names i) (unnamed i) v)
