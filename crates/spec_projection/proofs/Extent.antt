-- A form has a supremum on a solvable list, or is unbounded there; and its supremum is a value or not.
use Rattle.std.proofs.Common.{◌≡◌, ◌⊎◌, inl, inr, ℕ, List, [], ◌∷◌, pos, refl, ap, sym, subst, ◌∙◌}
use Rattle.spec_numbers.specs.Rational.{ℚ, 0ℚ, ◌+ℚ◌, ◌-ℚ◌, neg_ℚ, IsPositive, ◌≤ℚ◌, ◌<ℚ◌}
use Rattle.spec_numbers.proofs.Ring.{var, int, ◌⊕◌, minus}
use Rattle.spec_numbers.proofs.RationalLemmas.{ring}
use Rattle.spec_numbers.proofs.Sign.{nonneg_cases}
use Rattle.spec_linear.specs.Form.{Linear, value_at, constant_form, negated_form, difference_form}
use Rattle.spec_linear.specs.Solution.{Constraint, Point, number, Solves, Solvable, Unsolvable, Satisfies, equal_zero}
use Rattle.spec_linear.proofs.Points.{solves_same}
use Rattle.spec_linear.proofs.Denominators.{solvable_same}
use Rattle.spec_linear.specs.Weak.{above_zero}
use Rattle.spec_linear.proofs.Together.{less_is, reached_above}
use Rattle.spec_linear.proofs.Far.{weak_satisfied}
use Rattle.spec_linear.specs.Extremes.{Exceeds, IsSupremum, IsUnbounded, IsInfimum}
use Rattle.spec_numbers.proofs.Order.{lt_or_le, lt_to_le, le_trans}
use Rattle.spec_projection.proofs.Decision.{decided}
use Rattle.spec_projection.proofs.Upwards.{Upwards, on, up_to, AllAt, upwards, middle, middle_above, middle_below, beyond}
use Rattle.spec_projection.proofs.Reached.{z, value_rows, value_rows_are, from_solution, to_solution}

abbrev pub HasExtent : List Constraint → Linear → Type 0
HasExtent l f = ((q : ℚ) × IsSupremum l f q) ⊎ IsUnbounded l f

module _ (l : List Constraint) (f : Linear) (solvable : Solvable l) where
  -- from values of the variables to a point
  exceeds_at : (r : ℚ) (b : ℕ → ℚ) → Satisfies b l → r <ℚ value_at b f → Exceeds l f r
  exceeds_at r b s h =
      let g : Linear = difference_form f (constant_form r) in
      let p : Solvable (above_zero g ∷ l) = (solvable_same (above_zero g ∷ l)).1 (b, (subst IsPositive (sym (less_is b f r)) h.gap, s)) in
      let k = (solves_same p.0 (above_zero g ∷ l)).0 p.1 in
      (p.0, p.1.1, record { gap = subst IsPositive (less_is (number p.0) f r) k.0 })

  -- what the rows allow is exceeded
  exceeds : (r q : ℚ) → r <ℚ q → AllAt (z l f) (value_rows l f) q → Exceeds l f r
  exceeds r q h s =
      let a = to_solution l f q s in
      let b = reached_above l f r solvable a.0 a.1 (subst (λ w. r <ℚ w) (sym a.2) h) in
      exceeds_at r b.0 b.1 b.2

  -- the value at some solution
  known : (q : ℚ) × AllAt (z l f) (value_rows l f) q
  known =
      let a = (solvable_same l).0 solvable in
      (value_at a.0 f, from_solution l f a.0 (weak_satisfied a.0 l a.1))

  bounded : (b : ℚ) → ((r : ℚ) → AllAt (z l f) (value_rows l f) r → r ≤ℚ b) → (p : Point) → Solves p l → value_at (number p) f ≤ℚ b
  bounded b u p s = u (value_at (number p) f) (from_solution l f (number p) (weak_satisfied (number p) l ((solves_same p l).0 s)))

  -- the rows hold at some number between
  approached : (q b r : ℚ) → AllAt (z l f) (value_rows l f) q → ((x : ℚ) → q ≤ℚ x → x <ℚ b → AllAt (z l f) (value_rows l f) x) → r <ℚ b → Exceeds l f r
  approached q b r s v h = go (lt_or_le r q)
    where
      go : (r <ℚ q) ⊎ (q ≤ℚ r) → Exceeds l f r
      go (inl k) = exceeds r q k s
      go (inr k) = exceeds r (middle r b) (middle_above r b h) (v (middle r b) (le_trans k (lt_to_le (middle_above r b h))) (middle_below r b h))

  extent_by : (q : ℚ) → AllAt (z l f) (value_rows l f) q → Upwards (AllAt (z l f) (value_rows l f)) q → HasExtent l f
  extent_by q s (on g) = inr (record {
    solvable = solvable;
    more = λ r. (let x = beyond r q in exceeds r x.0 x.1 (g x.0 x.2));
  })
  extent_by q s (up_to b h u v) = inl (
    b,
    record {
      solvable = solvable;
      bound = bounded b u;
      least = λ r k. approached q b r s v k;
    },
  )

  pub extent : HasExtent l f
  extent = extent_by known.0 known.1 (upwards (z l f) (value_rows l f) (value_rows_are l f) known.0 known.1)

-- the least value by the greatest of the negative
pub extent_below : (l : List Constraint) (f : Linear) → Solvable l → ((q : ℚ) × IsInfimum l f q) ⊎ IsUnbounded l (negated_form f)
extent_below l f s = go (extent l (negated_form f) s)
  where
    go : HasExtent l (negated_form f) → ((q : ℚ) × IsInfimum l f q) ⊎ IsUnbounded l (negated_form f)
    go (inl x) = inl (neg_ℚ x.0, subst (λ w. IsSupremum l (negated_form f) w) (ring (x.0 ∷ []) (var 0) (minus (minus (var 0))) refl) x.1)
    go (inr x) = inr x

-- ---- whether the supremum is a value

abbrev pub IsAttained : List Constraint → Linear → ℚ → Type 0
IsAttained l f q = (p : Point) × Solves p l × (value_at (number p) f ≡ q)

equal_if_none : (p q : ℚ) → p -ℚ q ≡ 0ℚ → p ≡ q
equal_if_none p q e = ring (p ∷ q ∷ []) (var 0) ((var 0 ⊕ minus (var 1)) ⊕ var 1) refl ∙ ap (λ r. r +ℚ q) e ∙ ring (q ∷ []) (int (pos 0) ⊕ var 0) (var 0) refl

-- how far the form is above the number
abbrev less : Linear → ℚ → Linear
less f q = difference_form f (constant_form q)

pub attained_or_not : (l : List Constraint) (f : Linear) (q : ℚ) → IsSupremum l f q
    → IsAttained l f q ⊎ ((p : Point) → Solves p l → value_at (number p) f <ℚ q)
attained_or_not l f q sup = go (decided (equal_zero (less f q) ∷ l))
  where
    value_of_less : (p : Point) → value_at (number p) (less f q) ≡ value_at (number p) f -ℚ q
    value_of_less p = less_is (number p) f q

    attained : (s : Solvable (equal_zero (less f q) ∷ l)) → IsAttained l f q
    attained s =
        let k = (solves_same s.0 (equal_zero (less f q) ∷ l)).0 s.1 in
        (s.0, s.1.1, equal_if_none (value_at (number s.0) f) q (sym (value_of_less s.0) ∙ k.0))

    below : Unsolvable (equal_zero (less f q) ∷ l) → (p : Point) → Solves p l → value_at (number p) f <ℚ q
    below n p s = by (nonneg_cases (q -ℚ value_at (number p) f) (sup.bound p s).gap)
      where
        by : (q -ℚ value_at (number p) f ≡ 0ℚ) ⊎ IsPositive (q -ℚ value_at (number p) f) → value_at (number p) f <ℚ q
        by (inl e) =
            let none_left : value_at (number p) (less f q) ≡ 0ℚ =
            value_of_less p ∙ ring (value_at (number p) f ∷ q ∷ []) (var 0 ⊕ minus (var 1)) (minus (var 1 ⊕ minus (var 0))) refl
            ∙ ap neg_ℚ e ∙ ring [] (minus (int (pos 0))) (int (pos 0)) refl in
            absurd (n p ((solves_same p (equal_zero (less f q) ∷ l)).1 (none_left, (solves_same p l).0 s)))
        by (inr h) = record { gap = h }

    go : Solvable (equal_zero (less f q) ∷ l) ⊎ Unsolvable (equal_zero (less f q) ∷ l) → IsAttained l f q ⊎ ((p : Point) → Solves p l → value_at (number p) f <ℚ q)
    go (inl s) = inl (attained s)
    go (inr n) = inr (below n)
