-- The least value of the query's last variable.
use Rattle.std.proofs.Common.{◌≡◌, ◌∙◌, ◌<◌, ◌≤◌, ◌+◌, ◌-◌, ◌*◌, ◌%◌, ℕ, zero, suc, [], ◌∷◌, pos, refl, sym, ap, subst, arith}
use Rattle.std.proofs.Math.Nat.{mod-lt}
use Rattle.std.proofs.lemmas.Int.{ints}
use Rattle.spec_numbers.specs.Rational.{ℚ, int_ℚ, ◌+ℚ◌, ◌-ℚ◌, ◌≤ℚ◌, IsNotNegative}
use Rattle.spec_numbers.proofs.Ring.{var, ◌⊕◌, minus}
use Rattle.spec_numbers.proofs.RationalLemmas.{ring, ℚ_ring}
use Rattle.spec_numbers.proofs.Sign.{ratio_nonneg}
use Rattle.spec_numbers.proofs.Order.{le_refl, le_trans}
use Rattle.spec_syntax.specs.Trees.{Tree}
use Rattle.spec_branch.specs.Values.{IsMetAt}
use Rattle.spec_command.specs.Query.{IsLeastValue, before, constraints, gap, last, least, lower, lowers, upper, uppers}

-- ---- natural numbers as rationals

abbrev whole : ℕ → ℚ
whole n = int_ℚ (pos n)

whole_plus : (a b : ℕ) → whole (a + b) ≡ whole a +ℚ whole b
whole_plus a b = ℚ_ring.of_add (pos a) (pos b)

whole_not_negative : (d : ℕ) → IsNotNegative (whole d)
unfolding int_ℚ
whole_not_negative d = ratio_nonneg (pos d) 1 (omega arith) (omega (arith, ints))

above : (a d : ℕ) → whole a ≤ℚ whole (a + d)
above a d = record {
  gap =
      subst IsNotNegative (sym (ap (λ x. x -ℚ whole a) (whole_plus a d)
      ∙ ring (whole a ∷ whole d ∷ []) ((var 0 ⊕ var 1) ⊕ minus (var 0)) (var 1) refl)) (whole_not_negative d);
}

whole_le : (a b : ℕ) → a ≤ b → whole a ≤ℚ whole b
whole_le a b h =
    let e : a + (b - a) ≡ b = omega (arith, h) in
    subst (λ x. whole a ≤ℚ whole x) e (above a (b - a))

shifted : (p q g : ℚ) → p ≤ℚ q → (p +ℚ g) ≤ℚ (q +ℚ g)
shifted p q g h = record {
  gap =
      subst IsNotNegative (sym (ring (p ∷ q ∷ g ∷ []) ((var 1 ⊕ var 2) ⊕ minus (var 0 ⊕ var 2)) (var 1 ⊕ minus (var 0)) refl)) h.gap;
}

-- ---- each variable is its least value at least

module _ (a : ℕ → ℚ) (rest : Tree) where
  bound_from : (c k : ℕ) → whole (least k) ≤ℚ a k → IsMetAt a (before (lowers (suc k) c) rest) → whole (least (k + c)) ≤ℚ a (k + c)
  bound_from zero k h m =
      let e : k ≡ k + 0 = omega arith in
      subst (λ j. whole (least j) ≤ℚ a j) e h
  bound_from (suc c) k h m =
      let g = gap (suc (suc k)) in
      let sum = subst (λ x. x ≤ℚ (a k +ℚ whole g)) (sym (whole_plus (least k) g)) (shifted (whole (least k)) (a k) (whole g) h) in
      let next : whole (least (suc k)) ≤ℚ a (suc k) = le_trans sum m.0 in
      let e : suc k + c ≡ k + suc c = omega arith in
      subst (λ j. whole (least j) ≤ℚ a j) e (bound_from c (suc k) next m.1)

-- ---- somewhere each is its least value

gap_small : (i : ℕ) → gap i ≤ 7
unfolding gap
gap_small i =
    let h : (i * i) % 7 < 7 = mod-lt (i * i) (omega arith) in
    omega (arith, h)

least_small : (k : ℕ) → least k ≤ 1 + 7 * k
least_small zero = omega arith
least_small (suc k) =
    let h = least_small k in
    let g = gap_small (suc (suc k)) in
    omega (arith, h, g)

abbrev pub here : ℕ → ℚ
here k = whole (least k)

lower_met : (k : ℕ) → IsMetAt here (lower k)
lower_met zero = le_refl (whole 1)
lower_met (suc k) =
    let g = gap (suc (suc k)) in
    subst (λ x. x ≤ℚ whole (least k + g)) (whole_plus (least k) g) (le_refl (whole (least k + g)))

upper_met : (k : ℕ) → k < 200 → IsMetAt here (upper k)
upper_met k h =
    let s = least_small k in
    whole_le (least k) 1000000 (omega (arith, s, h))

lowers_met : (c k : ℕ) (rest : Tree) → IsMetAt here rest → IsMetAt here (before (lowers k c) rest)
lowers_met zero k rest h = h
lowers_met (suc c) k rest h = (lower_met k, lowers_met c (suc k) rest h)

uppers_met : (c k : ℕ) (rest : Tree) → k + c ≤ 200 → IsMetAt here rest → IsMetAt here (before (uppers k c) rest)
uppers_met zero k rest small h = h
uppers_met (suc c) k rest small h = (upper_met k (omega (arith, small)), uppers_met c (suc k) rest (omega (arith, small)) h)

bound_last : (a : ℕ → ℚ) (k : ℕ) → IsMetAt a (constraints (suc k)) → whole (least k) ≤ℚ a k
bound_last a k m =
    let e : 0 + k ≡ k = omega arith in
    subst (λ j. whole (least j) ≤ℚ a j) e (bound_from a (before (uppers 0 k) (upper k)) k 0 m.0 m.1)

pub here_met : (k : ℕ) → k < 200 → IsMetAt here (constraints (suc k))
here_met k small =
    lowers_met (suc k) 0 (before (uppers 0 k) (upper k)) (uppers_met k 0 (upper k) (omega (arith, small)) (upper_met k small))

pub least_value : (k : ℕ) → k < 200 → IsLeastValue (constraints (suc k)) (last (suc k)) (whole (least k))
least_value k small = record { bound = λ a m. bound_last a k m; reached = (here, here_met k small, refl) }
