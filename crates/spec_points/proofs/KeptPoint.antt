-- The points of the samples with a variable that is kept for a disequation, and with a solved equation.
use Rattle.std.proofs.Common.{◌≡◌, inl, inr, ℕ, ◌<◌, List, [], ◌∷◌, ◌++◌, pos, refl, sym, ap, ap₂, subst, ◌∙◌}
use Rattle.spec_numbers.specs.Gcd.{gcd}
use Rattle.spec_numbers.specs.Rational.{ℚ, 0ℚ, 1ℚ, ratio, int_ℚ, inv_ℚ, ◌+ℚ◌, ◌-ℚ◌, ◌*ℚ◌, neg_ℚ, IsPositive, IsNotNegative, ◌≤ℚ◌, ◌<ℚ◌}
use Rattle.spec_numbers.proofs.Ring.{var, int, ◌⊕◌, ◌⊗◌, minus}
use Rattle.spec_numbers.proofs.RationalLemmas.{ring, cross_same}
use Rattle.spec_numbers.proofs.Sign.{pos_one, pos_add, pos_nonneg, nonneg_add, nonneg_zero, one_not_zero, not_pos_zero}
use Rattle.spec_numbers.proofs.Order.{lt_to_pos, lt_to_le, lt_trans, lt_le_trans, lt_or_le, nonneg_to_le}
use Rattle.spec_linear.specs.Echelon.{equations}
use Rattle.spec_linear.specs.Solution.{Constraint, Has, Satisfies}
use Rattle.spec_projection.proofs.Members.{alike_refl}
use Rattle.spec_projection.proofs.Upwards.{middle, middle_above, middle_below, beyond}
use Rattle.spec_points.specs.Bounds.{Between, OnlyAbove, Anywhere, between, only_above, anywhere, tried, whole}
use Rattle.spec_points.specs.Points.{with_value, IsChosen, IsPoint}
use Rattle.spec_points.specs.Samples.{kept_apart, loan}
use Rattle.spec_points.proofs.Reach.{solved, has, has_then, least_near, least_at, greatest_at, upwards, downwards, not_below}
use Rattle.spec_points.proofs.Worked.{values, no_earlier}
use Rattle.spec_points.proofs.Unique.{unique}

-- a number below one and not above another
under : (p q : ℚ) → (r : ℚ) × (r <ℚ p) × (r ≤ℚ q)
under p q =
    let s = beyond (neg_ℚ p) (neg_ℚ q) in (
      neg_ℚ s.0,
      record { gap = subst IsPositive (ring (s.0 ∷ p ∷ []) (var 0 ⊕ minus (minus (var 1))) (var 1 ⊕ minus (minus (var 0))) refl) s.1.gap },
      record { gap = subst IsNotNegative (ring (s.0 ∷ q ∷ []) (var 0 ⊕ minus (minus (var 1))) (var 1 ⊕ minus (minus (var 0))) refl) s.2.gap },
    )

positive_not_zero : (q : ℚ) → 0ℚ <ℚ q → q ≡ 0ℚ → ⊥
positive_not_zero q h e = not_pos_zero (subst IsPositive e (lt_to_pos h))

-- ---- X-Z>=0, Z>=0, Y-Z=\=0

module _ (b : ℕ → ℚ) (s : Satisfies b kept_apart) where
  x_reaches : IsNotNegative (b 0 -ℚ b 2)
  x_reaches =
      subst IsNotNegative
      (ring (b 0 ∷ b 2 ∷ []) (minus (int (pos 0)) ⊕ (int (pos 1) ⊗ var 0 ⊕ (minus (int (pos 1)) ⊗ var 1 ⊕ int (pos 0)))) (var 0 ⊕ minus (var 1)) refl) s.0

  z_is : IsNotNegative (b 2)
  z_is = subst IsNotNegative (ring (b 2 ∷ []) (minus (int (pos 0)) ⊕ (int (pos 1) ⊗ var 0 ⊕ int (pos 0))) (var 0) refl) s.1.0

  x_not_below : 0ℚ ≤ℚ b 0
  x_not_below = nonneg_to_le (subst IsNotNegative (ring (b 0 ∷ b 2 ∷ []) ((var 0 ⊕ minus (var 1)) ⊕ var 1) (var 0) refl) (nonneg_add x_reaches z_is))

  z_not_above : b 2 ≤ℚ b 0
  z_not_above = record { gap = x_reaches }

fits : (q w r : ℚ) → r ≤ℚ q → IsNotNegative r → (w -ℚ r ≡ 0ℚ → ⊥) → Satisfies (values q w r) kept_apart
fits q w r h k n = (
  subst IsNotNegative
      (ring (q ∷ r ∷ []) (var 0 ⊕ minus (var 1)) (minus (int (pos 0)) ⊕ (int (pos 1) ⊗ var 0 ⊕ (minus (int (pos 1)) ⊗ var 1 ⊕ int (pos 0)))) refl) h.gap,
  (
    subst IsNotNegative (ring (r ∷ []) (var 0) (minus (int (pos 0)) ⊕ (int (pos 1) ⊗ var 0 ⊕ int (pos 0))) refl) k,
    ((λ e. n (ring (w ∷ r ∷ []) (var 0 ⊕ minus (var 1)) (minus (int (pos 0)) ⊕ (int (pos 1) ⊗ var 0 ⊕ (minus (int (pos 1)) ⊗ var 1 ⊕ int (pos 0)))) refl ∙ e)), tt),
  ),
)

-- Z is 0, and Y is not
zero_fits : (q w : ℚ) → 0ℚ ≤ℚ q → (w ≡ 0ℚ → ⊥) → Satisfies (values q w 0ℚ) kept_apart
zero_fits q w h n = fits q w 0ℚ h nonneg_zero (λ e. n (ring (w ∷ []) (var 0) (var 0 ⊕ minus (int (pos 0))) refl ∙ e))

-- Y is 0, and Z is positive
positive_fits : (q r : ℚ) → r ≤ℚ q → 0ℚ <ℚ r → Satisfies (values q 0ℚ r) kept_apart
positive_fits q r h k =
    fits q 0ℚ r h (pos_nonneg (lt_to_pos k))
    (λ e. positive_not_zero r k (ring (r ∷ []) (var 0) (minus (int (pos 0) ⊕ minus (var 0))) refl ∙ ap neg_ℚ e ∙ ring [] (minus (int (pos 0))) (int (pos 0)) refl))

zero_below_one : 0ℚ <ℚ 1ℚ
zero_below_one = record { gap = subst IsPositive (ring [] (int (pos 1)) (int (pos 1) ⊕ minus (int (pos 0))) refl) pos_one }

zero_not_above : 0ℚ ≤ℚ 0ℚ
zero_not_above = nonneg_to_le nonneg_zero

one_not_above : 1ℚ ≤ℚ 1ℚ
one_not_above = record { gap = subst IsNotNegative (ring [] (int (pos 0)) (int (pos 1) ⊕ minus (int (pos 1))) refl) nonneg_zero }

abbrev with_x : List Constraint
with_x = with_value kept_apart 0 1ℚ

abbrev with_both : List Constraint
with_both = with_value with_x 1 0ℚ

and_x : (w r : ℚ) → Satisfies (values 1ℚ w r) kept_apart → Satisfies (values 1ℚ w r) with_x
and_x w r s = (s.0, (s.1.0, (s.1.1.0, (has (values 1ℚ w r) 0 1ℚ refl, tt))))

and_both : (r : ℚ) → Satisfies (values 1ℚ 0ℚ r) kept_apart → Satisfies (values 1ℚ 0ℚ r) with_both
and_both r s = (s.0, (s.1.0, (s.1.1.0, (has (values 1ℚ 0ℚ r) 0 1ℚ refl, (has (values 1ℚ 0ℚ r) 1 0ℚ refl, tt)))))

x_chosen : IsChosen kept_apart 0 1ℚ
x_chosen = record {
  bounds = OnlyAbove 0ℚ;
  place = 0;
  tries = record {
    has_bounds = only_above
        (least_at kept_apart 0 (values 0ℚ 1ℚ 0ℚ) (zero_fits 0ℚ 1ℚ zero_not_above one_not_zero) x_not_below)
        (upwards kept_apart 0 (solved kept_apart (values 0ℚ 1ℚ 0ℚ) (zero_fits 0ℚ 1ℚ zero_not_above one_not_zero))
        (λ r. (let s = beyond r 0ℚ in (values s.0 1ℚ 0ℚ, zero_fits s.0 1ℚ s.2 one_not_zero, s.1))));
    earlier = λ i h. absurd (no_earlier i h);
  };
  value = ring [] (int (pos 1)) (int (pos 0) ⊕ int (pos 1)) refl;
  works = solved with_x (values 1ℚ 1ℚ 0ℚ) (and_x 1ℚ 0ℚ (zero_fits 1ℚ 1ℚ (lt_to_le zero_below_one) one_not_zero));
}

below_zero : (r : ℚ) → r <ℚ 0ℚ → r ≡ 0ℚ → ⊥
below_zero r h e = not_pos_zero (subst IsPositive (ap (λ (z : ℚ). 0ℚ -ℚ z) e ∙ ring [] (int (pos 0) ⊕ minus (int (pos 0))) (int (pos 0)) refl) h.gap)

-- numbers that are not zero, below and above any
less_than : (r : ℚ) → (w : ℚ) × (w <ℚ r) × (w ≡ 0ℚ → ⊥)
less_than r =
    let s = under r (neg_ℚ 1ℚ) in
    let minus_one : neg_ℚ 1ℚ <ℚ 0ℚ = record { gap = subst IsPositive (ring [] (int (pos 1)) (int (pos 0) ⊕ minus (minus (int (pos 1)))) refl) pos_one } in
    (s.0, s.1, below_zero s.0 (le_lt s.2 minus_one))
  where
    le_lt : {p q t : ℚ} → p ≤ℚ q → q <ℚ t → p <ℚ t
    le_lt {p} {q} {t} h k = record {
      gap = subst IsPositive (ring (p ∷ q ∷ t ∷ []) ((var 2 ⊕ minus (var 1)) ⊕ (var 1 ⊕ minus (var 0))) (var 2 ⊕ minus (var 0)) refl) (pos_add k.gap h.gap);
    }

more_than : (r : ℚ) → (w : ℚ) × (r <ℚ w) × (w ≡ 0ℚ → ⊥)
more_than r = let s = beyond r 1ℚ in (s.0, s.1, positive_not_zero s.0 (lt_le_trans zero_below_one s.2))

y_chosen : IsChosen with_x 1 0ℚ
y_chosen = record {
  bounds = Anywhere;
  place = 0;
  tries = record {
    has_bounds = anywhere
        (downwards with_x 1 x_chosen.works
        (λ r. (let s = less_than r in (values 1ℚ s.0 0ℚ, and_x s.0 0ℚ (zero_fits 1ℚ s.0 (lt_to_le zero_below_one) s.2), s.1))))
        (upwards with_x 1 x_chosen.works
        (λ r. (let s = more_than r in (values 1ℚ s.0 0ℚ, and_x s.0 0ℚ (zero_fits 1ℚ s.0 (lt_to_le zero_below_one) s.2), s.1))));
    earlier = λ i h. absurd (no_earlier i h);
  };
  value = refl;
  works = solved with_both (values 1ℚ 0ℚ 1ℚ) (and_both 1ℚ (positive_fits 1ℚ 1ℚ one_not_above zero_below_one));
}

-- a value of Z that is positive, below e, and at most 1
near_zero : (e : ℚ) → 0ℚ <ℚ e → (b : ℕ → ℚ) × Satisfies b with_both × (b 2 <ℚ e)
near_zero e h = elim (lt_or_le e 1ℚ) [
  | inl k ↦ (
    values 1ℚ 0ℚ (middle 0ℚ e),
    and_both (middle 0ℚ e) (positive_fits 1ℚ (middle 0ℚ e) (lt_to_le (lt_trans (middle_below 0ℚ e h) k)) (middle_above 0ℚ e h)),
    middle_below 0ℚ e h,
  )
  | inr k ↦ (
    values 1ℚ 0ℚ (middle 0ℚ 1ℚ),
    and_both (middle 0ℚ 1ℚ) (positive_fits 1ℚ (middle 0ℚ 1ℚ) (lt_to_le (middle_below 0ℚ 1ℚ zero_below_one)) (middle_above 0ℚ 1ℚ zero_below_one)),
    lt_le_trans (middle_below 0ℚ 1ℚ zero_below_one) k,
  )
]

abbrev half : ℚ
half = ratio (pos 1) 2

rows_of : (b : ℕ → ℚ) → Satisfies b with_both → Satisfies b kept_apart
rows_of b s = (s.0, (s.1.0, (s.1.1.0, tt)))

other_half : IsNotNegative (1ℚ -ℚ half)
unfolding ratio int_ℚ gcd neg_ℚ ◌+ℚ◌ ◌*ℚ◌
other_half = record { not_negative = not_below 1 }

this_half : IsPositive (half -ℚ 0ℚ)
unfolding ratio int_ℚ gcd neg_ℚ ◌+ℚ◌ ◌*ℚ◌
this_half = record { positive = pos_one.positive }

in_the_middle : half ≡ tried (Between 0ℚ 1ℚ) 0
unfolding ratio int_ℚ gcd neg_ℚ ◌+ℚ◌ ◌*ℚ◌ inv_ℚ
in_the_middle = cross_same half (tried (Between 0ℚ 1ℚ) 0) refl

half_fits : Satisfies (values 1ℚ 0ℚ half) kept_apart
half_fits = positive_fits 1ℚ half (record { gap = other_half }) (record { gap = this_half })

z_chosen : IsChosen with_both 2 half
z_chosen = record {
  bounds = Between 0ℚ 1ℚ;
  place = 0;
  tries = record {
    has_bounds = between
        (least_near with_both 2 0ℚ y_chosen.works (λ b s. nonneg_to_le (z_is b (rows_of b s))) near_zero)
        (greatest_at with_both 2 (values 1ℚ 0ℚ 1ℚ) (and_both 1ℚ (positive_fits 1ℚ 1ℚ one_not_above zero_below_one))
        (λ b s. subst (λ (q : ℚ). b 2 ≤ℚ q) (has_then b 0 1ℚ s.1.1.1.0) (z_not_above b (rows_of b s))));
    earlier = λ i h. absurd (no_earlier i h);
  };
  value = in_the_middle;
  works =
      solved (with_value with_both 2 half) (values 1ℚ 0ℚ half)
      (let s = and_both half half_fits in (s.0, (s.1.0, (s.1.1.0, (s.1.1.1.0, (s.1.1.1.1.0, (has (values 1ℚ 0ℚ half) 2 half refl, tt)))))));
}

kept_point : IsPoint [] kept_apart (0 ∷ 1 ∷ 2 ∷ []) (values 1ℚ 0ℚ half)
kept_point = record { chosen = (x_chosen, (y_chosen, (z_chosen, tt))); solved = tt }

module _ (v : ℕ → ℚ) (p : IsPoint [] kept_apart (0 ∷ 1 ∷ 2 ∷ []) v) where
  kept_alike : (x : ℕ) → Has x (0 ∷ 1 ∷ 2 ∷ []) → v x ≡ values 1ℚ 0ℚ half x
  kept_alike = unique [] [] kept_apart kept_apart (0 ∷ 1 ∷ 2 ∷ []) v (values 1ℚ 0ℚ half) (alike_refl kept_apart) refl p kept_point

  pub kept_first : v 0 ≡ whole 1
  kept_first = kept_alike 0 (inl refl)

  pub kept_second : v 1 ≡ whole 0
  kept_second = kept_alike 1 (inr (inl refl))

  pub kept_third : v 2 ≡ half
  kept_third = kept_alike 2 (inr (inr (inl refl)))

-- ---- a loan: X is a form of Y and Z, and these are free

abbrev each : ℚ
each = ratio (pos 1000000) 1030301

abbrev rest : ℚ
rest = ratio (pos 3030100) 1030301

abbrev rows : List Constraint
rows = equations loan ++ []

loan_fits : (w r : ℚ) → Satisfies (values (each *ℚ w +ℚ rest *ℚ r) w r) rows
loan_fits w r = (
  ring (w ∷ r ∷ each ∷ rest ∷ [])
      (minus (int (pos 0)) ⊕ (int (pos 1) ⊗ (var 2 ⊗ var 0 ⊕ var 3 ⊗ var 1) ⊕ (minus (var 2) ⊗ var 0 ⊕ (minus (var 3) ⊗ var 1 ⊕ int (pos 0)))))
      (int (pos 0)) refl,
  tt,
)

abbrev with_y : List Constraint
with_y = with_value rows 1 (whole 0)

loan_with_y : (r : ℚ) → Satisfies (values (each *ℚ 0ℚ +ℚ rest *ℚ r) 0ℚ r) with_y
loan_with_y r = ((loan_fits 0ℚ r).0, (has (values (each *ℚ 0ℚ +ℚ rest *ℚ r) 0ℚ r) 1 (whole 0) refl, tt))

loan_y : IsChosen rows 1 (whole 0)
loan_y = record {
  bounds = Anywhere;
  place = 0;
  tries = record {
    has_bounds = anywhere
        (downwards rows 1 (solved rows (values (each *ℚ 0ℚ +ℚ rest *ℚ 0ℚ) 0ℚ 0ℚ) (loan_fits 0ℚ 0ℚ))
        (λ r. (let s = less_than r in (values (each *ℚ s.0 +ℚ rest *ℚ 0ℚ) s.0 0ℚ, loan_fits s.0 0ℚ, s.1))))
        (upwards rows 1 (solved rows (values (each *ℚ 0ℚ +ℚ rest *ℚ 0ℚ) 0ℚ 0ℚ) (loan_fits 0ℚ 0ℚ))
        (λ r. (let s = more_than r in (values (each *ℚ s.0 +ℚ rest *ℚ 0ℚ) s.0 0ℚ, loan_fits s.0 0ℚ, s.1))));
    earlier = λ i h. absurd (no_earlier i h);
  };
  value = refl;
  works = solved with_y (values (each *ℚ 0ℚ +ℚ rest *ℚ 0ℚ) 0ℚ 0ℚ) (loan_with_y 0ℚ);
}

loan_z : IsChosen with_y 2 (whole 0)
loan_z = record {
  bounds = Anywhere;
  place = 0;
  tries = record {
    has_bounds = anywhere
        (downwards with_y 2 loan_y.works (λ r. (let s = less_than r in (values (each *ℚ 0ℚ +ℚ rest *ℚ s.0) 0ℚ s.0, loan_with_y s.0, s.1))))
        (upwards with_y 2 loan_y.works (λ r. (let s = more_than r in (values (each *ℚ 0ℚ +ℚ rest *ℚ s.0) 0ℚ s.0, loan_with_y s.0, s.1))));
    earlier = λ i h. absurd (no_earlier i h);
  };
  value = refl;
  works =
      solved (with_value with_y 2 (whole 0)) (values (each *ℚ 0ℚ +ℚ rest *ℚ 0ℚ) 0ℚ 0ℚ)
      (let s = loan_with_y 0ℚ in (s.0, (s.1.0, (has (values (each *ℚ 0ℚ +ℚ rest *ℚ 0ℚ) 0ℚ 0ℚ) 2 (whole 0) refl, tt))));
}

nothing_owed : (w r : ℚ) → w ≡ 0ℚ → r ≡ 0ℚ → 0ℚ +ℚ (each *ℚ w +ℚ (rest *ℚ r +ℚ 0ℚ)) ≡ 0ℚ
nothing_owed w r e f =
    ap₂ (λ (y z : ℚ). 0ℚ +ℚ (each *ℚ y +ℚ (rest *ℚ z +ℚ 0ℚ))) e f
    ∙ ring (each ∷ rest ∷ []) (int (pos 0) ⊕ (var 0 ⊗ int (pos 0) ⊕ (var 1 ⊗ int (pos 0) ⊕ int (pos 0)))) (int (pos 0)) refl

loan_point : IsPoint loan [] (0 ∷ 1 ∷ 2 ∷ []) (values 0ℚ 0ℚ 0ℚ)
loan_point = record { chosen = (loan_y, (loan_z, tt)); solved = (sym (nothing_owed 0ℚ 0ℚ refl refl), tt) }

module _ (v : ℕ → ℚ) (p : IsPoint loan [] (0 ∷ 1 ∷ 2 ∷ []) v) where
  loan_alike : (x : ℕ) → Has x (1 ∷ 2 ∷ []) → v x ≡ values 0ℚ 0ℚ 0ℚ x
  loan_alike = unique loan loan [] [] (0 ∷ 1 ∷ 2 ∷ []) v (values 0ℚ 0ℚ 0ℚ) (alike_refl rows) refl p loan_point

  pub loan_second : v 1 ≡ whole 0
  loan_second = loan_alike 1 (inl refl)

  pub loan_third : v 2 ≡ whole 0
  loan_third = loan_alike 2 (inr (inl refl))

  pub loan_first : v 0 ≡ whole 0
  loan_first = p.solved.0 ∙ nothing_owed (v 1) (v 2) loan_second loan_third
