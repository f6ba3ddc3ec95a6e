-- The points of the samples.
use Rattle.std.proofs.Common.{◌≡◌, inl, inr, ℕ, zero, suc, ◌<◌, List, [], ◌∷◌, pos, refl, sym, ap, ap₂, subst, ◌∙◌, arith}
use Rattle.spec_numbers.specs.Rational.{ℚ, 0ℚ, 1ℚ, ◌+ℚ◌, ◌-ℚ◌, ◌*ℚ◌, neg_ℚ, IsNotNegative, ◌≤ℚ◌, ◌<ℚ◌}
use Rattle.spec_numbers.proofs.Ring.{var, int, ◌⊕◌, ◌⊗◌, minus}
use Rattle.spec_numbers.proofs.RationalLemmas.{ring}
use Rattle.spec_numbers.proofs.Sign.{pos_one, pos_nonneg, one_not_zero, not_both}
use Rattle.spec_numbers.proofs.Order.{le_refl, neg_le}
use Rattle.spec_linear.specs.Form.{variable_form, negated_form}
use Rattle.spec_linear.specs.Solution.{Constraint, Point, number, Has, Solves, Unsolvable, Satisfies}
use Rattle.spec_linear.specs.Extremes.{IsInfimum, IsUnbounded}
use Rattle.spec_linear.proofs.Values.{value_at-variable_form}
use Rattle.spec_linear.proofs.Points.{solves_same}
use Rattle.spec_linear.proofs.Lists.{equal_to-holds}
use Rattle.spec_projection.proofs.Members.{alike_refl}
use Rattle.spec_projection.proofs.Upwards.{beyond}
use Rattle.spec_points.specs.Bounds.{OnlyAbove, Anywhere, only_above, anywhere, whole}
use Rattle.spec_points.specs.Points.{with_value, IsChosen, IsPoint}
use Rattle.spec_points.specs.Samples.{at_least_five, unequal}
use Rattle.spec_points.proofs.Reach.{exceeds_at, solved, has, negative}
use Rattle.spec_points.proofs.Unique.{unique}

-- ---- X>=5

abbrev five : ℚ
five = whole 5

all_are : ℚ → ℕ → ℚ
all_are q y = q

five_satisfied : (q : ℚ) → five ≤ℚ q → Satisfies (all_are q) at_least_five
unfolding all_are
five_satisfied q h = (subst IsNotNegative (ring (q ∷ []) (var 0 ⊕ minus (int (pos 5))) (minus (int (pos 5)) ⊕ (int (pos 1) ⊗ var 0 ⊕ int (pos 0))) refl) h.gap, tt)

five_least : (p : Point) → Solves p at_least_five → five ≤ℚ number p 0
five_least p s =
    let h = (solves_same p at_least_five).0 s in
    record { gap = subst IsNotNegative (ring (number p 0 ∷ []) (minus (int (pos 5)) ⊕ (int (pos 1) ⊗ var 0 ⊕ int (pos 0))) (var 0 ⊕ minus (int (pos 5))) refl) h.0 }

five_infimum : IsInfimum at_least_five (variable_form 0) five
unfolding all_are
five_infimum = record {
  solvable = solved at_least_five (all_are five) (five_satisfied five (le_refl five));
  bound = λ p s. subst (λ (z : ℚ). z ≤ℚ neg_ℚ five) (sym (negative (number p) 0)) (neg_le (five_least p s));
  least = λ r h. exceeds_at at_least_five (negated_form (variable_form 0)) r (all_are five) (five_satisfied five (le_refl five))
      (subst (λ (z : ℚ). r <ℚ z) (sym (negative (all_are five) 0)) h);
}

five_unbounded : IsUnbounded at_least_five (variable_form 0)
unfolding all_are
five_unbounded = record {
  solvable = five_infimum.solvable;
  more = λ r. (let s = beyond r five in
      exceeds_at at_least_five (variable_form 0) r (all_are s.0) (five_satisfied s.0 s.2) (subst (λ (z : ℚ). r <ℚ z) (sym (value_at-variable_form (all_are s.0) 0)) s.1));
}

five_to_six : five ≤ℚ (five +ℚ whole 1)
five_to_six = record { gap = subst IsNotNegative (ring [] (int (pos 1)) ((int (pos 5) ⊕ int (pos 1)) ⊕ minus (int (pos 5))) refl) (pos_nonneg pos_one) }

five_chosen : IsChosen at_least_five 0 (five +ℚ whole 1)
unfolding all_are
five_chosen = record {
  bounds = OnlyAbove five;
  place = 0;
  tries = record { has_bounds = only_above five_infimum five_unbounded; earlier = λ i h. absurd (omega (arith, h)) };
  value = refl;
  works =
      solved (with_value at_least_five 0 (five +ℚ whole 1)) (all_are (five +ℚ whole 1))
      ((five_satisfied (five +ℚ whole 1) five_to_six).0, (has (all_are (five +ℚ whole 1)) 0 (five +ℚ whole 1) refl, tt));
}

five_point : IsPoint [] at_least_five (0 ∷ []) (all_are (five +ℚ whole 1))
unfolding all_are
five_point = record { chosen = (five_chosen, tt); solved = tt }

pub above_five : (v : ℕ → ℚ) → IsPoint [] at_least_five (0 ∷ []) v → v 0 ≡ whole 6
unfolding all_are
above_five v p =
    unique [] [] at_least_five at_least_five (0 ∷ []) v (all_are (five +ℚ whole 1)) (alike_refl at_least_five) refl p five_point 0 (inl refl)
    ∙ ring [] (int (pos 5) ⊕ int (pos 1)) (int (pos 6)) refl

-- ---- X=\=Y

abbrev two : ℚ → ℚ → ℕ → ℚ
two q w zero = q
two q w (suc n) = w

minus_one_not_zero : neg_ℚ 1ℚ ≡ 0ℚ → ⊥
minus_one_not_zero e = one_not_zero (ring [] (int (pos 1)) (minus (minus (int (pos 1)))) refl ∙ ap neg_ℚ e ∙ ring [] (minus (int (pos 0))) (int (pos 0)) refl)

-- Y is one more than X
step : (q : ℚ) → Satisfies (two q (q +ℚ 1ℚ)) unequal
step q = (
  (λ e. minus_one_not_zero (
      ring (q ∷ []) (minus (int (pos 1))) (minus (int (pos 0)) ⊕ (int (pos 1) ⊗ var 0 ⊕ (minus (int (pos 1)) ⊗ (var 0 ⊕ int (pos 1)) ⊕ int (pos 0)))) refl ∙ e
      )),
  tt,
)

x_down : IsUnbounded unequal (negated_form (variable_form 0))
x_down = record {
  solvable = solved unequal (two 0ℚ (0ℚ +ℚ 1ℚ)) (step 0ℚ);
  more = λ r. (let s = beyond r 0ℚ in
      exceeds_at unequal (negated_form (variable_form 0)) r (two (neg_ℚ s.0) (neg_ℚ s.0 +ℚ 1ℚ)) (step (neg_ℚ s.0))
      (subst (λ (z : ℚ). r <ℚ z)
      (ring (s.0 ∷ []) (var 0) (minus (minus (var 0))) refl ∙ sym (negative (two (neg_ℚ s.0) (neg_ℚ s.0 +ℚ 1ℚ)) 0)) s.1));
}

x_up : IsUnbounded unequal (variable_form 0)
x_up = record {
  solvable = x_down.solvable;
  more = λ r. (let s = beyond r 0ℚ in
      exceeds_at unequal (variable_form 0) r (two s.0 (s.0 +ℚ 1ℚ)) (step s.0)
      (subst (λ (z : ℚ). r <ℚ z) (sym (value_at-variable_form (two s.0 (s.0 +ℚ 1ℚ)) 0)) s.1));
}

abbrev with_x : List Constraint
with_x = with_value unequal 0 (whole 0)

-- X is 0, and Y is not
zero_and : (q : ℚ) → (q ≡ 0ℚ → ⊥) → Satisfies (two (whole 0) q) with_x
zero_and q n = (
  (λ e. n (
      ring (q ∷ []) (var 0) (minus (minus (int (pos 0)) ⊕ (int (pos 1) ⊗ int (pos 0) ⊕ (minus (int (pos 1)) ⊗ var 0 ⊕ int (pos 0))))) refl
      ∙ ap neg_ℚ e ∙ ring [] (minus (int (pos 0))) (int (pos 0)) refl
      )),
  (has (two (whole 0) q) 0 (whole 0) refl, tt),
)

at_least_one : (q : ℚ) → 1ℚ ≤ℚ q → q ≡ 0ℚ → ⊥
at_least_one q h e = not_both pos_one (subst IsNotNegative (ap (λ (z : ℚ). z -ℚ 1ℚ) e ∙ ring [] (int (pos 0) ⊕ minus (int (pos 1))) (minus (int (pos 1))) refl) h.gap)

negative_zero : (q : ℚ) → (q ≡ 0ℚ → ⊥) → neg_ℚ q ≡ 0ℚ → ⊥
negative_zero q n e = n (ring (q ∷ []) (var 0) (minus (minus (var 0))) refl ∙ ap neg_ℚ e ∙ ring [] (minus (int (pos 0))) (int (pos 0)) refl)

y_down : IsUnbounded with_x (negated_form (variable_form 1))
y_down = record {
  solvable = solved with_x (two (whole 0) 1ℚ) (zero_and 1ℚ one_not_zero);
  more = λ r. (let s = beyond r 1ℚ in
      exceeds_at with_x (negated_form (variable_form 1)) r (two (whole 0) (neg_ℚ s.0)) (zero_and (neg_ℚ s.0) (negative_zero s.0 (at_least_one s.0 s.2)))
      (subst (λ (z : ℚ). r <ℚ z) (ring (s.0 ∷ []) (var 0) (minus (minus (var 0))) refl ∙ sym (negative (two (whole 0) (neg_ℚ s.0)) 1)) s.1));
}

y_up : IsUnbounded with_x (variable_form 1)
y_up = record {
  solvable = y_down.solvable;
  more = λ r. (let s = beyond r 1ℚ in
      exceeds_at with_x (variable_form 1) r (two (whole 0) s.0) (zero_and s.0 (at_least_one s.0 s.2))
      (subst (λ (z : ℚ). r <ℚ z) (sym (value_at-variable_form (two (whole 0) s.0) 1)) s.1));
}

-- with Y zero the two are equal
none_at_zero : Unsolvable (with_value with_x 1 (whole 0))
none_at_zero p s =
    let x_is : number p 0 ≡ whole 0 = (equal_to-holds p 0 (whole 0)).0 s.1.0 in
    let y_is : number p 1 ≡ whole 0 = (equal_to-holds p 1 (whole 0)).0 s.1.1.0 in
    ((solves_same p unequal).0 (s.0, tt)).0 (
    ap₂ (λ (z w : ℚ). neg_ℚ 0ℚ +ℚ (1ℚ *ℚ z +ℚ (neg_ℚ 1ℚ *ℚ w +ℚ 0ℚ))) x_is y_is
    ∙ ring [] (minus (int (pos 0)) ⊕ (int (pos 1) ⊗ int (pos 0) ⊕ (minus (int (pos 1)) ⊗ int (pos 0) ⊕ int (pos 0)))) (int (pos 0)) refl
    )

x_chosen : IsChosen unequal 0 (whole 0)
x_chosen = record {
  bounds = Anywhere;
  place = 0;
  tries = record { has_bounds = anywhere x_down x_up; earlier = λ i h. absurd (omega (arith, h)) };
  value = refl;
  works = solved with_x (two (whole 0) 1ℚ) (zero_and 1ℚ one_not_zero);
}

y_chosen : IsChosen with_x 1 (whole 1)
y_chosen = record {
  bounds = Anywhere;
  place = 1;
  tries = record {
    has_bounds = anywhere y_down y_up;
    earlier = λ i h. (let e : i ≡ 0 = omega (arith, h) in subst (λ (k : ℕ). Unsolvable (with_value with_x 1 (whole k))) (sym e) none_at_zero);
  };
  value = refl;
  works =
      solved (with_value with_x 1 (whole 1)) (two (whole 0) 1ℚ)
      ((zero_and 1ℚ one_not_zero).0, ((zero_and 1ℚ one_not_zero).1.0, (has (two (whole 0) 1ℚ) 1 (whole 1) refl, tt)));
}

apart_point : IsPoint [] unequal (0 ∷ 1 ∷ []) (two (whole 0) (whole 1))
apart_point = record { chosen = (x_chosen, (y_chosen, tt)); solved = tt }

module _ (v : ℕ → ℚ) (p : IsPoint [] unequal (0 ∷ 1 ∷ []) v) where
  alike : (x : ℕ) → Has x (0 ∷ 1 ∷ []) → v x ≡ two (whole 0) (whole 1) x
  alike = unique [] [] unequal unequal (0 ∷ 1 ∷ []) v (two (whole 0) (whole 1)) (alike_refl unequal) refl p apart_point

  pub apart_first : v 0 ≡ whole 0
  apart_first = alike 0 (inl refl)

  pub apart_second : v 1 ≡ whole 1
  apart_second = alike 1 (inr (inl refl))
