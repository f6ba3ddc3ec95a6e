use Rattle.std.proofs.Common.{◌+◌, sym, subst, ap₂, ◌∙◌}
use Rattle.spec_log.specs.Verdicts.{is_false_run}
use Rattle.cq_cert.specs.Pieces.{words_of}
use Rattle.cq_cert.specs.Places.{Leads}
use Rattle.cq_cert.proofs.Reading.{behind_step}
use Rattle.cq_cert.proofs.check.behind_run.Goals as goal

pub returns-then-is_false_run : goal.returns-then-is_false_run
returns-then-is_false_run c =
    let k = c.args.first.entries in
    subst (λ f. Leads f (k + 1) c.between.result)
    (behind_step c.args.line k c.args.first.members.items c.args.first.run.items (words_of c.args.text.now) (sym c.begins_a_run.ensures ∙ c.if-begins_a_run.false)
    (sym (c.is_false_run.ensures ∙ ap₂ is_false_run c.deref.ensures.value c.deref-2.ensures.value) ∙ c.if-is_false_run.true)) c.between.ensures
