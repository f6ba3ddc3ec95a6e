-- The points of the samples with two rows and more.
use Rattle.std.proofs.Common.{◌≡◌, inl, inr, ℕ, zero, suc, ◌<◌, List, [], ◌∷◌, pos, negsuc, refl, sym, ap, subst, ◌∙◌, arith}
use Rattle.spec_numbers.specs.Gcd.{gcd}
use Rattle.spec_numbers.specs.Rational.{ℚ, 0ℚ, 1ℚ, ratio, int_ℚ, inv_ℚ, ◌+ℚ◌, ◌-ℚ◌, ◌*ℚ◌, neg_ℚ, IsPositive, IsNotNegative, ◌≤ℚ◌, ◌<ℚ◌}
use Rattle.spec_numbers.proofs.Ring.{var, int, ◌⊕◌, ◌⊗◌, minus}
use Rattle.spec_numbers.proofs.RationalLemmas.{ring, cross_same}
use Rattle.spec_numbers.proofs.Sign.{pos_one, pos_add, nonneg_add}
use Rattle.spec_numbers.proofs.Order.{pos_to_lt, lt_to_pos, lt_to_le}
use Rattle.spec_linear.specs.Solution.{Constraint, Has, Satisfies}
use Rattle.spec_projection.proofs.Members.{alike_refl}
use Rattle.spec_projection.proofs.Upwards.{middle, middle_above, middle_below, beyond}
use Rattle.spec_points.specs.Bounds.{Between, OnlyAbove, between, only_above, tried, whole}
use Rattle.spec_points.specs.Points.{with_value, IsChosen, IsPoint}
use Rattle.spec_points.specs.Samples.{wedge, both_positive}
use Rattle.spec_points.proofs.Reach.{solved, has, has_then, least_near, least_at, greatest_at, upwards, not_below}
use Rattle.spec_points.proofs.Unique.{unique}

-- X, Y and what is behind them
abbrev pub values : ℚ → ℚ → ℚ → ℕ → ℚ
values q w z zero = q
values q w z (suc zero) = w
values q w z (suc (suc n)) = z

pub no_earlier : (i : ℕ) → i < 0 → ⊥
no_earlier i h = omega (arith, h)

-- ---- X+Y>=1, X-Y=<3, Y=<2

-- what the rows say
module _ (b : ℕ → ℚ) (s : Satisfies b wedge) where
  sum_is : IsNotNegative ((b 0 +ℚ b 1) -ℚ 1ℚ)
  sum_is = subst IsNotNegative (ring (b 0 ∷ b 1 ∷ []) (minus (int (pos 1)) ⊕ (int (pos 1) ⊗ var 0 ⊕ (int (pos 1) ⊗ var 1 ⊕ int (pos 0)))) ((var 0 ⊕ var 1) ⊕ minus (int (pos 1))) refl) s.0

  difference_is : IsNotNegative (whole 3 -ℚ (b 0 -ℚ b 1))
  difference_is =
      subst IsNotNegative
      (ring (b 0 ∷ b 1 ∷ []) (int (pos 3) ⊕ (minus (int (pos 1)) ⊗ var 0 ⊕ (minus (minus (int (pos 1))) ⊗ var 1 ⊕ int (pos 0)))) (int (pos 3) ⊕ minus (var 0 ⊕ minus (var 1))) refl)
      s.1.0

  y_is : IsNotNegative (whole 2 -ℚ b 1)
  y_is = subst IsNotNegative (ring (b 1 ∷ []) (int (pos 2) ⊕ (minus (int (pos 1)) ⊗ var 0 ⊕ int (pos 0))) (int (pos 2) ⊕ minus (var 0)) refl) s.1.1.0

  x_not_below : int_ℚ (negsuc 0) ≤ℚ b 0
  x_not_below = record {
    gap = subst IsNotNegative
        (ring (b 0 ∷ b 1 ∷ []) (((var 0 ⊕ var 1) ⊕ minus (int (pos 1))) ⊕ (int (pos 2) ⊕ minus (var 1))) (var 0 ⊕ minus (int (negsuc 0))) refl)
        (nonneg_add sum_is y_is);
  }

  x_not_above : b 0 ≤ℚ whole 5
  x_not_above = record {
    gap = subst IsNotNegative
        (ring (b 0 ∷ b 1 ∷ []) ((int (pos 3) ⊕ minus (var 0 ⊕ minus (var 1))) ⊕ (int (pos 2) ⊕ minus (var 1))) (int (pos 5) ⊕ minus (var 0)) refl)
        (nonneg_add difference_is y_is);
  }

  y_not_above : b 1 ≤ℚ whole 2
  y_not_above = record { gap = y_is }

-- corners, and a value between them
lowest : Satisfies (values (int_ℚ (negsuc 0)) (whole 2) 0ℚ) wedge
unfolding ratio int_ℚ gcd neg_ℚ ◌+ℚ◌ ◌*ℚ◌
lowest = (record { not_negative = not_below 0 }, (record { not_negative = not_below 6 }, (record { not_negative = not_below 0 }, tt)))

highest : Satisfies (values (whole 5) (whole 2) 0ℚ) wedge
unfolding ratio int_ℚ gcd neg_ℚ ◌+ℚ◌ ◌*ℚ◌
highest = (record { not_negative = not_below 6 }, (record { not_negative = not_below 0 }, (record { not_negative = not_below 0 }, tt)))

nearest : Satisfies (values (whole 2) (int_ℚ (negsuc 0)) 0ℚ) wedge
unfolding ratio int_ℚ gcd neg_ℚ ◌+ℚ◌ ◌*ℚ◌
nearest = (record { not_negative = not_below 0 }, (record { not_negative = not_below 0 }, (record { not_negative = not_below 3 }, tt)))

furthest : Satisfies (values (whole 2) (whole 2) 0ℚ) wedge
unfolding ratio int_ℚ gcd neg_ℚ ◌+ℚ◌ ◌*ℚ◌
furthest = (record { not_negative = not_below 3 }, (record { not_negative = not_below 3 }, (record { not_negative = not_below 0 }, tt)))

abbrev half : ℚ
half = ratio (pos 1) 2

inside : Satisfies (values (whole 2) half 0ℚ) wedge
unfolding ratio int_ℚ gcd neg_ℚ ◌+ℚ◌ ◌*ℚ◌
inside = (record { not_negative = not_below 3 }, (record { not_negative = not_below 3 }, (record { not_negative = not_below 3 }, tt)))

abbrev with_two : List Constraint
with_two = with_value wedge 0 (whole 2)

-- the three rows and the value of X together
and_two : (b : ℕ → ℚ) → b 0 ≡ whole 2 → Satisfies b wedge → Satisfies b with_two
and_two b e s = (s.0, (s.1.0, (s.1.1.0, (has b 0 (whole 2) e, tt))))

rows_of : (b : ℕ → ℚ) → Satisfies b with_two → Satisfies b wedge
rows_of b s = (s.0, (s.1.0, (s.1.1.0, tt)))

y_not_below : (b : ℕ → ℚ) → Satisfies b with_two → int_ℚ (negsuc 0) ≤ℚ b 1
y_not_below b s = record {
  gap = subst IsNotNegative
      (ap (λ (z : ℚ). (z +ℚ b 1) -ℚ 1ℚ) (has_then b 0 (whole 2) s.1.1.1.0)
      ∙ ring (b 1 ∷ []) ((int (pos 2) ⊕ var 0) ⊕ minus (int (pos 1))) (var 0 ⊕ minus (int (negsuc 0))) refl)
      (sum_is b (rows_of b s));
}

x_in_the_middle : whole 2 ≡ tried (Between (int_ℚ (negsuc 0)) (whole 5)) 0
unfolding ratio int_ℚ gcd neg_ℚ ◌+ℚ◌ ◌*ℚ◌ inv_ℚ
x_in_the_middle = cross_same (whole 2) (tried (Between (int_ℚ (negsuc 0)) (whole 5)) 0) refl

y_in_the_middle : half ≡ tried (Between (int_ℚ (negsuc 0)) (whole 2)) 0
unfolding ratio int_ℚ gcd neg_ℚ ◌+ℚ◌ ◌*ℚ◌ inv_ℚ
y_in_the_middle = cross_same half (tried (Between (int_ℚ (negsuc 0)) (whole 2)) 0) refl

x_chosen : IsChosen wedge 0 (whole 2)
x_chosen = record {
  bounds = Between (int_ℚ (negsuc 0)) (whole 5);
  place = 0;
  tries = record {
    has_bounds = between
        (least_at wedge 0 (values (int_ℚ (negsuc 0)) (whole 2) 0ℚ) lowest x_not_below)
        (greatest_at wedge 0 (values (whole 5) (whole 2) 0ℚ) highest x_not_above);
    earlier = λ i h. absurd (no_earlier i h);
  };
  value = x_in_the_middle;
  works = solved with_two (values (whole 2) half 0ℚ) (and_two (values (whole 2) half 0ℚ) refl inside);
}

y_chosen : IsChosen with_two 1 half
y_chosen = record {
  bounds = Between (int_ℚ (negsuc 0)) (whole 2);
  place = 0;
  tries = record {
    has_bounds = between
        (least_at with_two 1 (values (whole 2) (int_ℚ (negsuc 0)) 0ℚ) (and_two (values (whole 2) (int_ℚ (negsuc 0)) 0ℚ) refl nearest) y_not_below)
        (greatest_at with_two 1 (values (whole 2) (whole 2) 0ℚ) (and_two (values (whole 2) (whole 2) 0ℚ) refl furthest) (λ c s. y_not_above c (rows_of c s)));
    earlier = λ i h. absurd (no_earlier i h);
  };
  value = y_in_the_middle;
  works =
      solved (with_value with_two 1 half) (values (whole 2) half 0ℚ)
      (inside.0, (inside.1.0, (inside.1.1.0, (has (values (whole 2) half 0ℚ) 0 (whole 2) refl, (has (values (whole 2) half 0ℚ) 1 half refl, tt)))));
}

wedge_point : IsPoint [] wedge (0 ∷ 1 ∷ []) (values (whole 2) half 0ℚ)
wedge_point = record { chosen = (x_chosen, (y_chosen, tt)); solved = tt }

module _ (v : ℕ → ℚ) (p : IsPoint [] wedge (0 ∷ 1 ∷ []) v) where
  wedge_alike : (x : ℕ) → Has x (0 ∷ 1 ∷ []) → v x ≡ values (whole 2) half 0ℚ x
  wedge_alike = unique [] [] wedge wedge (0 ∷ 1 ∷ []) v (values (whole 2) half 0ℚ) (alike_refl wedge) refl p wedge_point

  pub wedge_first : v 0 ≡ whole 2
  wedge_first = wedge_alike 0 (inl refl)

  pub wedge_second : v 1 ≡ half
  wedge_second = wedge_alike 1 (inr (inl refl))

-- ---- X>0, Y>0

positive_value : (q : ℚ) → neg_ℚ 0ℚ +ℚ (1ℚ *ℚ q +ℚ 0ℚ) ≡ q
positive_value q = ring (q ∷ []) (minus (int (pos 0)) ⊕ (int (pos 1) ⊗ var 0 ⊕ int (pos 0))) (var 0) refl

both : (q w : ℚ) → IsPositive q → IsPositive w → Satisfies (values q w 0ℚ) both_positive
both q w h k = (subst IsPositive (sym (positive_value q)) h, (subst IsPositive (sym (positive_value w)) k, tt))

abbrev with_one : List Constraint
with_one = with_value both_positive 0 (whole 1)

one_and : (w : ℚ) → IsPositive w → Satisfies (values (whole 1) w 0ℚ) with_one
one_and w k = let s = both (whole 1) w pos_one k in (s.0, (s.1.0, (has (values (whole 1) w 0ℚ) 0 (whole 1) refl, tt)))

-- half of a positive number
smaller : (e : ℚ) → 0ℚ <ℚ e → IsPositive (middle 0ℚ e)
smaller e h = lt_to_pos (middle_above 0ℚ e h)

greater : (r : ℚ) → IsPositive (beyond r 1ℚ).0
greater r =
    let s = beyond r 1ℚ in
    subst IsPositive (ring (s.0 ∷ []) ((var 0 ⊕ minus (int (pos 1))) ⊕ int (pos 1)) (var 0) refl) (nonneg_pos s.2.gap)
  where
    nonneg_pos : {p : ℚ} → IsNotNegative p → IsPositive (p +ℚ 1ℚ)
    nonneg_pos {p} h = subst IsPositive (ring (p ∷ []) (int (pos 1) ⊕ var 0) (var 0 ⊕ int (pos 1)) refl) (pos_add pos_one h)

first_chosen : IsChosen both_positive 0 (whole 1)
first_chosen = record {
  bounds = OnlyAbove 0ℚ;
  place = 0;
  tries = record {
    has_bounds = only_above
        (least_near both_positive 0 0ℚ (solved both_positive (values 1ℚ 1ℚ 0ℚ) (both 1ℚ 1ℚ pos_one pos_one))
        (λ b s. lt_to_le (pos_to_lt (subst IsPositive (positive_value (b 0)) s.0)))
        (λ e h. (values (middle 0ℚ e) 1ℚ 0ℚ, both (middle 0ℚ e) 1ℚ (smaller e h) pos_one, middle_below 0ℚ e h)))
        (upwards both_positive 0 (solved both_positive (values 1ℚ 1ℚ 0ℚ) (both 1ℚ 1ℚ pos_one pos_one))
        (λ r. (values (beyond r 1ℚ).0 1ℚ 0ℚ, both (beyond r 1ℚ).0 1ℚ (greater r) pos_one, (beyond r 1ℚ).1)));
    earlier = λ i h. absurd (no_earlier i h);
  };
  value = ring [] (int (pos 1)) (int (pos 0) ⊕ int (pos 1)) refl;
  works = solved with_one (values (whole 1) 1ℚ 0ℚ) (one_and 1ℚ pos_one);
}

second_chosen : IsChosen with_one 1 (whole 1)
second_chosen = record {
  bounds = OnlyAbove 0ℚ;
  place = 0;
  tries = record {
    has_bounds = only_above
        (least_near with_one 1 0ℚ (solved with_one (values (whole 1) 1ℚ 0ℚ) (one_and 1ℚ pos_one))
        (λ b s. lt_to_le (pos_to_lt (subst IsPositive (positive_value (b 1)) s.1.0)))
        (λ e h. (values (whole 1) (middle 0ℚ e) 0ℚ, one_and (middle 0ℚ e) (smaller e h), middle_below 0ℚ e h)))
        (upwards with_one 1 (solved with_one (values (whole 1) 1ℚ 0ℚ) (one_and 1ℚ pos_one))
        (λ r. (values (whole 1) (beyond r 1ℚ).0 0ℚ, one_and (beyond r 1ℚ).0 (greater r), (beyond r 1ℚ).1)));
    earlier = λ i h. absurd (no_earlier i h);
  };
  value = ring [] (int (pos 1)) (int (pos 0) ⊕ int (pos 1)) refl;
  works =
      solved (with_value with_one 1 (whole 1)) (values (whole 1) (whole 1) 0ℚ)
      (let s = one_and 1ℚ pos_one in (s.0, (s.1.0, (s.1.1.0, (has (values (whole 1) (whole 1) 0ℚ) 1 (whole 1) refl, tt)))));
}

positive_point : IsPoint [] both_positive (0 ∷ 1 ∷ []) (values (whole 1) (whole 1) 0ℚ)
positive_point = record { chosen = (first_chosen, (second_chosen, tt)); solved = tt }

module _ (v : ℕ → ℚ) (p : IsPoint [] both_positive (0 ∷ 1 ∷ []) v) where
  positive_alike : (x : ℕ) → Has x (0 ∷ 1 ∷ []) → v x ≡ values (whole 1) (whole 1) 0ℚ x
  positive_alike = unique [] [] both_positive both_positive (0 ∷ 1 ∷ []) v (values (whole 1) (whole 1) 0ℚ) (alike_refl both_positive) refl p positive_point

  pub positive_first : v 0 ≡ whole 1
  positive_first = positive_alike 0 (inl refl)

  pub positive_second : v 1 ≡ whole 1
  positive_second = positive_alike 1 (inr (inl refl))
