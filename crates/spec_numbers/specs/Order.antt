-- The order of two rationals, by cross products.
use Rattle.std.specs.Prelude.{pos, ◌*ℤ◌}
use Rattle.std.specs.declared.cmp.Ordering.{Ordering}
use Rattle.std.specs.Ordering.{int_cmp}
use Rattle.spec_numbers.specs.Rational.{ℚ, denominator}

-- how p stands to q
abbrev pub cmp_ℚ : ℚ → ℚ → Ordering
cmp_ℚ p q = int_cmp (p.numerator *ℤ pos (denominator q)) (q.numerator *ℤ pos (denominator p))
