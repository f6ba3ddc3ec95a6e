use Rattle.std.proofs.Common.{◌∙◌, codes, ap, sym}
use Rattle.std.specs.Prelude.{bytes_eq}
use Rattle.spec_builtins.specs.Bodies.{is_control}
use Rattle.cq_lint.proofs.Heads.{joined, frozen, not_joined}
use Rattle.cq_lint.proofs.goals.below_two.Goals as goal

pub returns-then-is_control : goal.returns-then-is_control
returns-then-is_control c = λ ts id h.
    joined c.args.atoms.now ts id c.args.sides h (ap is_control (sym c.text-name.ensures.value) ∙ sym c.is_control.ensures ∙ c.if-is_control.true)

pub returns-then-eq : goal.returns-then-eq
returns-then-eq c = λ ts id h.
    frozen c.args.atoms.now ts id c.args.sides h (ap is_control (sym c.text-name.ensures.value) ∙ sym c.is_control.ensures ∙ c.if-is_control.false)
    (ap (λ x. bytes_eq x (codes "freeze")) (sym c.text-name.ensures.value) ∙ sym c.eq.ensures ∙ c.if-eq.true)

pub returns : goal.returns
returns c = λ ts id h.
    not_joined c.args.atoms.now ts id c.args.sides h (ap is_control (sym c.text-name.ensures.value) ∙ sym c.is_control.ensures ∙ c.if-is_control.false)
    (ap (λ x. bytes_eq x (codes "freeze")) (sym c.text-name.ensures.value) ∙ sym c.eq.ensures ∙ c.if-eq.false)
