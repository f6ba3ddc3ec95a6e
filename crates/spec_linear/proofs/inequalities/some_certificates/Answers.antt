use Rattle.std.proofs.Common.{inl, inr, [], ◌∷◌, arith, refl}
use Rattle.std.proofs.lemmas.Int.{ints}
use Rattle.spec_numbers.specs.Gcd.{gcd}
use Rattle.spec_numbers.specs.Rational.{1ℚ, ratio, int_ℚ, ◌+ℚ◌, ◌*ℚ◌, neg_ℚ}
use Rattle.spec_linear.proofs.inequalities.some_certificates.Goals as goal

pub returns-clause-below_zero : goal.returns-clause-below_zero
unfolding gcd ratio int_ℚ neg_ℚ ◌+ℚ◌ ◌*ℚ◌
returns-clause-below_zero c = inl (record {
  allowed = (record { not_negative = omega (arith, ints) }, (record { not_negative = omega (arith, ints) }, tt));
  no_variable = λ x. refl;
  wrong = inl (record { gap = record { positive = omega (arith, ints) } });
})

pub returns-clause-strict : goal.returns-clause-strict
unfolding gcd ratio int_ℚ neg_ℚ ◌+ℚ◌ ◌*ℚ◌
returns-clause-strict c = inl (record {
  allowed = (record { not_negative = omega (arith, ints) }, (record { not_negative = omega (arith, ints) }, tt));
  no_variable = λ x. refl;
  wrong = inr (refl, inl (refl, record { positive = omega (arith, ints) }));
})

pub returns-clause-disequation : goal.returns-clause-disequation
unfolding gcd ratio int_ℚ neg_ℚ ◌+ℚ◌ ◌*ℚ◌
returns-clause-disequation c = inr (record {
  number = 1;
  disequation = refl;
  up = 1ℚ;
  down = neg_ℚ 1ℚ;
  up_is_positive = record { gap = record { positive = omega (arith, ints) } };
  down_is_negative = record { gap = record { positive = omega (arith, ints) } };
  first = (2, neg_ℚ 1ℚ) ∷ [];
  second = (2, 1ℚ) ∷ [];
  parts = refl;
  not_above = record { allowed = (tt, tt); no_variable = λ x. refl; wrong = record { gap = record { not_negative = omega (arith, ints) } } };
  not_below = record { allowed = (tt, tt); no_variable = λ x. refl; wrong = record { gap = record { not_negative = omega (arith, ints) } } };
})
