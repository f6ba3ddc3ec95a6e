use Rattle.std.proofs.Common.{◌≡◌, ◌≢◌, ◌∙◌, true, false, sym, arith}
use Rattle.std.proofs.lemmas.Grind.{common_steps}
use Rattle.spec_numbers.specs.Rational.{1ℚ, neg_ℚ}
use Rattle.cq_answer.proofs.Products.{coefficient_other, minus_one}
use Rattle.cq_answer.proofs.printing.sums.push_coefficient.Goals as goal

pub returns : goal.returns
returns c =
    let one : c.args.factor ≢ 1ℚ = λ e. let n : false ≡ true = c.if-eq.ensures.same.1 (e ∙ sym c.one.ensures) in cc in
    let minus : c.args.factor ≢ neg_ℚ 1ℚ = λ e. let n : false ≡ true = c.if-eq-2.ensures.same.1 (e ∙ sym (minus_one c.neg.ensures c.one-2.ensures)) in cc in
    rw (coefficient_other c.args.factor one minus) (grind (arith, common_steps))
