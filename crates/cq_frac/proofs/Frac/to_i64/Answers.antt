use Rattle.std.proofs.Common.{rules, ◌≡◌, ℤ, pos, Option, sym, ap, ◌∙◌, of_z}
use Rattle.std.proofs.lemmas.Int.{to_z-of_z}
use Rattle.std.specs.Option.{IfSome}
use Rattle.std.specs.Result.{OkIff, result_ok}
use Rattle.std.specs.declared.result.Result.{Result}
use Rattle.std.specs.declared.result.Result.TheVariants.{Ok, Err}
use mir.Val.{SFits}
use mir.Syntax.{w128}
use Rattle.spec_numbers.specs.Rational.{ℚ, int_ℚ, ratio, denominator}
use Rattle.spec_numbers.proofs.RationalLemmas.{ratio_back}
use Rattle.cq_frac.proofs.Frac.to_i64.Goals as goal

whole_number : (q : ℚ) (n d : ℤ) → n ≡ q.numerator → d ≡ pos (denominator q) → of_z w128 d ≡ 1 → q ≡ int_ℚ n
unfolding int_ℚ
whole_number q n d top bottom one =
    let k : denominator q ≡ 1 = rw bottom at one in
    sym (ratio_back q) ∙ (λ i. ratio (sym top i) (k i))

kept : {E : Type 0} (q : ℚ) (n : ℤ) (P : Type 0) (r : Result ℤ E) (o : Option ℤ) → q ≡ int_ℚ n → OkIff r P n → o ≡ result_ok r → IfSome o (λ m. q ≡ int_ℚ m)
kept q n P (Ok x) o e ok is = rw is (e ∙ ap int_ℚ (sym ok.1))
kept q n P (Err x) o e ok is = rw is tt

pub returns-then-denominator-eq1 : goal.returns-then-denominator-eq1
returns-then-denominator-eq1 c =
    let fits : SFits w128 c.parts-numerator.result.0 = search rules in
    kept c.args.self c.parts-numerator.result.0 _ c.try_from.result c.ok.result
    (whole_number c.args.self c.parts-numerator.result.0 c.parts-numerator.result.1 c.parts-numerator.ensures.numerator c.parts-numerator.ensures.denominator c.if-denominator-eq1.true)
    (rw (to_z-of_z w128 c.parts-numerator.result.0 fits) at c.try_from.ensures) c.ok.ensures.value
