use Rattle.std.proofs.Common.{◌∙◌, ap, sym}
use Rattle.cq_lint.specs.Goals.{is_wrapper}
use Rattle.cq_lint.proofs.Heads.{wrapped, not_wrapped}
use Rattle.cq_lint.proofs.goals.below_one.Goals as goal

pub returns-then-is_wrapper : goal.returns-then-is_wrapper
returns-then-is_wrapper c = λ ts id h.
    wrapped c.args.atoms.now ts id c.args.only h (ap is_wrapper (sym c.text.ensures.value) ∙ sym c.is_wrapper.ensures ∙ c.if-is_wrapper.true)

pub returns : goal.returns
returns c = λ ts id h.
    not_wrapped c.args.atoms.now ts id c.args.only h (ap is_wrapper (sym c.text.ensures.value) ∙ sym c.is_wrapper.ensures ∙ c.if-is_wrapper.false)
