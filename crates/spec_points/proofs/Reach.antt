-- How far a variable goes on the values that satisfy a list, and a value that is chosen there.
use Rattle.std.proofs.Common.{◌≡◌, ℕ, List, [], ◌∷◌, pos, ℤ, ◌≤ℤ◌, refl, sym, ap, subst, ◌∙◌, arith}
use Rattle.std.proofs.lemmas.Int.{ints}
use Rattle.spec_numbers.specs.Rational.{ℚ, ◌+ℚ◌, ◌-ℚ◌, neg_ℚ, IsPositive, ◌≤ℚ◌, ◌<ℚ◌}
use Rattle.spec_numbers.proofs.Ring.{var, int, ◌⊕◌, minus}
use Rattle.spec_numbers.proofs.RationalLemmas.{ring}
use Rattle.spec_numbers.proofs.Order.{neg_le, neg_lt}
use Rattle.spec_linear.specs.Form.{Linear, value_at, variable_form, constant_form, negated_form, difference_form}
use Rattle.spec_linear.specs.Solution.{Constraint, number, Solvable, Satisfies, HoldsAt, equal_to}
use Rattle.spec_linear.specs.Weak.{above_zero}
use Rattle.spec_linear.specs.Extremes.{Exceeds, IsSupremum, IsInfimum, IsUnbounded}
use Rattle.spec_linear.proofs.Values.{value_at-variable_form, value_at-negated_form}
use Rattle.spec_linear.proofs.Denominators.{solvable_same}
use Rattle.spec_linear.proofs.Points.{solves_same}
use Rattle.spec_linear.proofs.Together.{less_is}
use Rattle.spec_points.proofs.Inside.{away}

pub exceeds_at : (l : List Constraint) (f : Linear) (r : ℚ) (b : ℕ → ℚ) → Satisfies b l → r <ℚ value_at b f → Exceeds l f r
exceeds_at l f r b s h =
    let g : Linear = difference_form f (constant_form r) in
    let p : Solvable (above_zero g ∷ l) = (solvable_same (above_zero g ∷ l)).1 (b, (subst IsPositive (sym (less_is b f r)) h.gap, s)) in
    let k = (solves_same p.0 (above_zero g ∷ l)).0 p.1 in
    (p.0, p.1.1, record { gap = subst IsPositive (less_is (number p.0) f r) k.0 })

pub solved : (l : List Constraint) (b : ℕ → ℚ) → Satisfies b l → Solvable l
solved l b s = (solvable_same l).1 (b, s)

-- the variable has the value
pub has : (b : ℕ → ℚ) (x : ℕ) (q : ℚ) → b x ≡ q → HoldsAt b (equal_to x q)
has b x q e = away b x q ∙ ap (λ (z : ℚ). z -ℚ q) e ∙ ring (q ∷ []) (var 0 ⊕ minus (var 0)) (int (pos 0)) refl

-- and where the equation holds it has it
pub has_then : (b : ℕ → ℚ) (x : ℕ) (q : ℚ) → HoldsAt b (equal_to x q) → b x ≡ q
has_then b x q h =
    ring (b x ∷ q ∷ []) (var 0) ((var 0 ⊕ minus (var 1)) ⊕ var 1) refl
    ∙ ap (λ (z : ℚ). z +ℚ q) (sym (away b x q) ∙ h)
    ∙ ring (q ∷ []) (int (pos 0) ⊕ var 0) (var 0) refl

pub negative : (b : ℕ → ℚ) (x : ℕ) → value_at b (negated_form (variable_form x)) ≡ neg_ℚ (b x)
negative b x = value_at-negated_form b (variable_form x) ∙ ap neg_ℚ (value_at-variable_form b x)

twice : (q : ℚ) → neg_ℚ (neg_ℚ q) ≡ q
twice q = ring (q ∷ []) (minus (minus (var 0))) (var 0) refl

-- where -q is above r, q is below -r, and back
turned : (q r : ℚ) → r <ℚ neg_ℚ q → q <ℚ neg_ℚ r
turned q r h = subst (λ (z : ℚ). z <ℚ neg_ℚ r) (twice q) (neg_lt h)

turned_back : (q r : ℚ) → q <ℚ neg_ℚ r → r <ℚ neg_ℚ q
turned_back q r h = subst (λ (z : ℚ). z <ℚ neg_ℚ q) (twice r) (neg_lt h)

module _ (l : List Constraint) (x : ℕ) where
  -- values go as near to the bound as is wanted
  pub least_near : (a : ℚ) → Solvable l → ((b : ℕ → ℚ) → Satisfies b l → a ≤ℚ b x) → ((e : ℚ) → a <ℚ e → (b : ℕ → ℚ) × Satisfies b l × (b x <ℚ e)) → IsInfimum l (variable_form x) a
  least_near a s bound near = record {
    solvable = s;
    bound = λ p h. subst (λ (z : ℚ). z ≤ℚ neg_ℚ a) (sym (negative (number p) x)) (neg_le (bound (number p) ((solves_same p l).0 h)));
    least = λ r h. (let n = near (neg_ℚ r) (turned a r h) in
        exceeds_at l (negated_form (variable_form x)) r n.0 n.1 (subst (λ (z : ℚ). r <ℚ z) (sym (negative n.0 x)) (turned_back (n.0 x) r n.2)));
  }

  -- values have the bound
  pub least_at : (b : ℕ → ℚ) → Satisfies b l → ((c : ℕ → ℚ) → Satisfies c l → b x ≤ℚ c x) → IsInfimum l (variable_form x) (b x)
  least_at b s bound = least_near (b x) (solved l b s) bound (λ e h. (b, s, h))

  pub greatest_at : (b : ℕ → ℚ) → Satisfies b l → ((c : ℕ → ℚ) → Satisfies c l → c x ≤ℚ b x) → IsSupremum l (variable_form x) (b x)
  greatest_at b s bound = record {
    solvable = solved l b s;
    bound = λ p h. subst (λ (z : ℚ). z ≤ℚ b x) (sym (value_at-variable_form (number p) x)) (bound (number p) ((solves_same p l).0 h));
    least = λ r h. exceeds_at l (variable_form x) r b s (subst (λ (z : ℚ). r <ℚ z) (sym (value_at-variable_form b x)) h);
  }

  -- values go on and on
  pub upwards : Solvable l → ((r : ℚ) → (b : ℕ → ℚ) × Satisfies b l × (r <ℚ b x)) → IsUnbounded l (variable_form x)
  upwards s more = record {
    solvable = s;
    more = λ r. (let n = more r in exceeds_at l (variable_form x) r n.0 n.1 (subst (λ (z : ℚ). r <ℚ z) (sym (value_at-variable_form n.0 x)) n.2));
  }

  pub downwards : Solvable l → ((r : ℚ) → (b : ℕ → ℚ) × Satisfies b l × (b x <ℚ r)) → IsUnbounded l (negated_form (variable_form x))
  downwards s more = record {
    solvable = s;
    more = λ r. (let n = more (neg_ℚ r) in
        exceeds_at l (negated_form (variable_form x)) r n.0 n.1 (subst (λ (z : ℚ). r <ℚ z) (sym (negative n.0 x)) (turned_back (n.0 x) r n.2)));
  }

-- the signs of numerators
pub not_below : (n : ℕ) → pos 0 ≤ℤ pos n
not_below n = omega (arith, ints)
