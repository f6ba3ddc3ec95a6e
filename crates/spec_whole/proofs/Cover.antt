-- A whole number lies on one side of each split.
use Rattle.std.proofs.Common.{◌≡◌, ◌⊎◌, inl, inr, ℕ, ℤ, pos, negsuc, neg_ℤ, ◌+ℤ◌, ◌<ℤ◌, ◌≤ℤ◌, arith, List, [], ◌∷◌, refl, sym, ap, ap₂, subst, ◌∙◌}
use Rattle.std.proofs.lemmas.Int.{ints}
use Rattle.std.specs.declared.cmp.Ordering.{Ordering}
use Rattle.std.specs.declared.cmp.Ordering.TheVariants.{Less, Equal, Greater}
use Rattle.std.specs.Ordering.{MatchOrdering}
use Rattle.spec_numbers.specs.Rational.{ℚ, 1ℚ, int_ℚ, neg_ℚ, ◌+ℚ◌, ◌-ℚ◌, ◌<ℚ◌, ◌≤ℚ◌, IsPositive, IsNotNegative}
use Rattle.spec_numbers.specs.Order.{cmp_ℚ}
use Rattle.spec_numbers.proofs.Order.{cmp_ℚ-matches, lt_or_le}
use Rattle.spec_numbers.proofs.Sign.{pos_ratio, ratio_nonneg}
use Rattle.spec_numbers.proofs.RationalLemmas.{ℚ_ring, ring, ratio-neg}
use Rattle.spec_numbers.proofs.Ring.{int, var, minus, ◌⊕◌}
use Rattle.spec_linear.specs.Form.{constant_form, variable_form}
use Rattle.spec_linear.specs.Solution.{Constraint, Point, number, Holds, HoldsAt, equal_to}
use Rattle.spec_linear.proofs.Values.{value_at-constant_form, value_at-variable_form, value_at-difference_form}
use Rattle.spec_linear.proofs.Points.{solves_same}
use Rattle.spec_whole.specs.Whole.{IsWhole, at_most, at_least, Splits, around, between}

-- ---- whole numbers

neg_int : (a : ℤ) → neg_ℚ (int_ℚ a) ≡ int_ℚ (neg_ℤ a)
unfolding int_ℚ
neg_int a = ratio-neg a 1 (omega arith)

positive_int : (z : ℤ) → IsPositive (int_ℚ z) → pos 0 <ℤ z
unfolding int_ℚ
positive_int z h = pos_ratio z 1 (omega arith) h

nonneg_int : (z : ℤ) → pos 0 ≤ℤ z → IsNotNegative (int_ℚ z)
unfolding int_ℚ
nonneg_int z h = ratio_nonneg z 1 (omega arith) h

one_less : (z : ℤ) → pos 0 <ℤ z → pos 0 ≤ℤ (z +ℤ negsuc 0)
one_less z h = omega (arith, ints, h)

minus_one : int_ℚ (negsuc 0) ≡ neg_ℚ 1ℚ
minus_one = sym (neg_int (pos 1))

-- between two whole numbers is one at least
pub whole_gap : (a b : ℤ) → int_ℚ a <ℚ int_ℚ b → IsNotNegative ((int_ℚ b -ℚ 1ℚ) -ℚ int_ℚ a)
whole_gap a b h = subst IsNotNegative (sym together) (nonneg_int (z +ℤ negsuc 0) (one_less z (positive_int z (subst IsPositive apart h.gap))))
  where
    z : ℤ
    z = b +ℤ neg_ℤ a

    apart : int_ℚ b -ℚ int_ℚ a ≡ int_ℚ (b +ℤ neg_ℤ a)
    apart = ap (λ w. int_ℚ b +ℚ w) (neg_int a) ∙ sym (ℚ_ring.of_add b (neg_ℤ a))

    together : (int_ℚ b -ℚ 1ℚ) -ℚ int_ℚ a ≡ int_ℚ ((b +ℤ neg_ℤ a) +ℤ negsuc 0)
    together =
        ring (int_ℚ b ∷ int_ℚ a ∷ 1ℚ ∷ []) ((var 0 ⊕ minus (var 2)) ⊕ minus (var 1)) ((var 0 ⊕ minus (var 1)) ⊕ minus (var 2)) refl
        ∙ ap₂ (λ v w. v +ℚ w) apart (sym minus_one)
        ∙ sym (ℚ_ring.of_add (b +ℤ neg_ℤ a) (negsuc 0))

-- ---- bounds

holds : (p : Point) (c : Constraint) → HoldsAt (number p) c → Holds p c
holds p c h = ((solves_same p (c ∷ [])).1 (h, tt)).0

most_holds : (p : Point) (x : ℕ) (q : ℚ) → IsNotNegative (q -ℚ number p x) → Holds p (at_most x q)
most_holds p x q h =
    holds p (at_most x q)
    (subst IsNotNegative (sym (value_at-difference_form (number p) (constant_form q) (variable_form x)
    ∙ ap₂ (λ v w. v -ℚ w) (value_at-constant_form (number p) q) (value_at-variable_form (number p) x))) h)

least_holds : (p : Point) (x : ℕ) (q : ℚ) → IsNotNegative (number p x -ℚ q) → Holds p (at_least x q)
least_holds p x q h =
    holds p (at_least x q)
    (subst IsNotNegative (sym (value_at-difference_form (number p) (variable_form x) (constant_form q)
    ∙ ap₂ (λ v w. v -ℚ w) (value_at-variable_form (number p) x) (value_at-constant_form (number p) q))) h)

equal_holds : (p : Point) (x : ℕ) (q : ℚ) → number p x ≡ q → Holds p (equal_to x q)
equal_holds p x q e =
    holds p (equal_to x q)
    (value_at-difference_form (number p) (variable_form x) (constant_form q)
    ∙ ap₂ (λ v w. v -ℚ w) (value_at-variable_form (number p) x ∙ e) (value_at-constant_form (number p) q)
    ∙ ring (q ∷ []) (var 0 ⊕ minus (var 0)) (int (pos 0)) refl)

-- ---- splits

-- one of the constraints holds
abbrev pub SomeHolds : Point → List Constraint → Type 0
SomeHolds p [] = ⊥
SomeHolds p (c ∷ cs) = Holds p c ⊎ SomeHolds p cs

around_covers : (p : Point) (x : ℕ) (q : ℚ) → IsWhole q → IsWhole (number p x)
    → SomeHolds p (equal_to x q ∷ at_most x (q -ℚ 1ℚ) ∷ at_least x (q +ℚ 1ℚ) ∷ [])
around_covers p x q u w = go (cmp_ℚ (number p x) q) (cmp_ℚ-matches (number p x) q)
  where
    gap : (r s : ℚ) → IsWhole r → IsWhole s → r <ℚ s → IsNotNegative ((s -ℚ 1ℚ) -ℚ r)
    gap r s i j h =
        subst (λ t. IsNotNegative ((s -ℚ 1ℚ) -ℚ t)) (sym i.is)
        (subst (λ t. IsNotNegative ((t -ℚ 1ℚ) -ℚ int_ℚ i.whole)) (sym j.is) (whole_gap i.whole j.whole (subst (λ t. t <ℚ int_ℚ j.whole) i.is (subst (λ t. r <ℚ t) j.is h))))

    go : (o : Ordering) → MatchOrdering o (number p x <ℚ q) (number p x ≡ q) (q <ℚ number p x)
        → SomeHolds p (equal_to x q ∷ at_most x (q -ℚ 1ℚ) ∷ at_least x (q +ℚ 1ℚ) ∷ [])
    go Less h = inr (inl (most_holds p x (q -ℚ 1ℚ) (gap (number p x) q w u h)))
    go Equal h = inl (equal_holds p x q h)
    go Greater h =
        inr (inr (inl (least_holds p x (q +ℚ 1ℚ)
        (subst IsNotNegative (ring (number p x ∷ q ∷ 1ℚ ∷ []) ((var 0 ⊕ minus (var 2)) ⊕ minus (var 1)) (var 0 ⊕ minus (var 1 ⊕ var 2)) refl)
        (gap q (number p x) u w h)))))

between_covers : (p : Point) (x : ℕ) (n : ℤ) → IsWhole (number p x) → SomeHolds p (at_most x (int_ℚ n) ∷ at_least x (int_ℚ n +ℚ 1ℚ) ∷ [])
between_covers p x n w = go (lt_or_le (int_ℚ n) (number p x))
  where
    go : (int_ℚ n <ℚ number p x) ⊎ (number p x ≤ℚ int_ℚ n) → SomeHolds p (at_most x (int_ℚ n) ∷ at_least x (int_ℚ n +ℚ 1ℚ) ∷ [])
    go (inl h) =
        inr (inl (least_holds p x (int_ℚ n +ℚ 1ℚ)
        (subst IsNotNegative (ring (number p x ∷ int_ℚ n ∷ 1ℚ ∷ []) ((var 0 ⊕ minus (var 2)) ⊕ minus (var 1)) (var 0 ⊕ minus (var 1 ⊕ var 2)) refl)
        (subst (λ t. IsNotNegative ((t -ℚ 1ℚ) -ℚ int_ℚ n)) (sym w.is) (whole_gap n w.whole (subst (λ t. int_ℚ n <ℚ t) w.is h))))))
    go (inr h) = inl (most_holds p x (int_ℚ n) h.gap)

pub covers : (p : Point) (x : ℕ) (q : ℚ) (bounds : List Constraint) → Splits x q bounds → IsWhole (number p x) → SomeHolds p bounds
covers p x q bounds (around u) w = around_covers p x q u w
covers p x q bounds (between {n = n} u f) w = between_covers p x n w
