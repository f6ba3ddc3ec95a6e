use Rattle.std.proofs.Common.{◌∙◌, codes, ap, sym}
use Rattle.std.specs.Prelude.{bytes_eq}
use Rattle.cq_lint.proofs.Heads.{caught, collected, not_caught}
use Rattle.cq_lint.proofs.goals.below_three.Goals as goal

pub returns-then-is_catch : goal.returns-then-is_catch
returns-then-is_catch c = λ ts id h.
    caught c.args.atoms.now ts id c.args.three h (ap (λ x. bytes_eq x (codes "catch")) (sym c.text-name.ensures.value) ∙ sym c.is_catch.ensures ∙ c.if-is_catch.true)

pub returns-then-eq : goal.returns-then-eq
returns-then-eq c = λ ts id h.
    collected c.args.atoms.now ts id c.args.three h (ap (λ x. bytes_eq x (codes "catch")) (sym c.text-name.ensures.value) ∙ sym c.is_catch.ensures ∙ c.if-is_catch.false)
    (ap (λ x. bytes_eq x (codes "findall")) (sym c.text-name.ensures.value) ∙ sym c.eq.ensures ∙ c.if-eq.true)

pub returns : goal.returns
returns c = λ ts id h.
    not_caught c.args.atoms.now ts id c.args.three h (ap (λ x. bytes_eq x (codes "catch")) (sym c.text-name.ensures.value) ∙ sym c.is_catch.ensures ∙ c.if-is_catch.false)
    (ap (λ x. bytes_eq x (codes "findall")) (sym c.text-name.ensures.value) ∙ sym c.eq.ensures ∙ c.if-eq.false)
