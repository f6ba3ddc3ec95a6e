-- What holds of every number from some number on: a line p t + q that rises is above zero, and one that is not flat at zero
-- is not zero.
use Rattle.std.proofs.Common.{◌≢◌, ◌⊎◌, inl, inr, [], ◌∷◌, pos, refl, ap, sym, subst, ◌∙◌}
use Rattle.spec_numbers.specs.Rational.{ℚ, 0ℚ, 1ℚ, ◌+ℚ◌, ◌-ℚ◌, ◌*ℚ◌, neg_ℚ, inv_ℚ, IsPositive, IsNotNegative, ◌≤ℚ◌, ◌<ℚ◌}
use Rattle.spec_numbers.proofs.Ring.{var, int, ◌⊕◌, ◌⊗◌, minus}
use Rattle.spec_numbers.proofs.RationalLemmas.{ring}
use Rattle.spec_numbers.proofs.Sign.{pos_add, nonneg_mul, pos_nonneg, pos_one, not_pos_zero, inv_mul, Sign, is_zero, is_pos, is_neg, sign}
use Rattle.spec_numbers.proofs.Order.{le_refl, le_trans, lt_to_le, lt_or_le, le_to_nonneg}

pub record Eventually (P : ℚ → Type 0) : Type 0 where
  pub from : ℚ
  pub holds : (t : ℚ) → from ≤ℚ t → P t

-- a number that two are not above
record Upper (p q : ℚ) : Type 0 where
  bound : ℚ
  first : p ≤ℚ bound
  second : q ≤ℚ bound

upper : (p q : ℚ) → Upper p q
upper p q = go (lt_or_le p q)
  where
    go : (p <ℚ q) ⊎ (q ≤ℚ p) → Upper p q
    go (inl h) = record { bound = q; first = lt_to_le h; second = le_refl q }
    go (inr h) = record { bound = p; first = le_refl p; second = h }

pub both : {P Q : ℚ → Type 0} → Eventually P → Eventually Q → Eventually (λ t. P t × Q t)
both h k =
    let u : Upper h.from k.from = upper h.from k.from in
    record { from = u.bound; holds = λ t le. (h.holds t (le_trans u.first le), k.holds t (le_trans u.second le)) }

-- what holds of every number from zero on
pub from_zero : {P : ℚ → Type 0} → ((t : ℚ) → IsNotNegative t → P t) → Eventually P
from_zero h = record { from = 0ℚ; holds = λ t le. h t (le_to_nonneg le) }

pub rises : (p q : ℚ) → IsPositive p → Eventually (λ t. IsPositive (t *ℚ p +ℚ q))
rises p q h = record {
  from = (1ℚ -ℚ q) *ℚ inv_ℚ p;
  holds = λ t le. subst IsPositive
      (ring (t ∷ p ∷ q ∷ inv_ℚ p ∷ []) (int (pos 1) ⊕ (var 0 ⊕ minus ((int (pos 1) ⊕ minus (var 2)) ⊗ var 3)) ⊗ var 1)
      (int (pos 1) ⊕ (var 0 ⊗ var 1 ⊕ minus ((int (pos 1) ⊕ minus (var 2)) ⊗ (var 1 ⊗ var 3)))) refl
      ∙ ap (λ w. 1ℚ +ℚ (t *ℚ p -ℚ (1ℚ -ℚ q) *ℚ w)) (inv_mul h)
      ∙ ring (t ∷ p ∷ q ∷ []) (int (pos 1) ⊕ (var 0 ⊗ var 1 ⊕ minus ((int (pos 1) ⊕ minus (var 2)) ⊗ int (pos 1)))) (var 0 ⊗ var 1 ⊕ var 2) refl)
      (pos_add pos_one (nonneg_mul le.gap (pos_nonneg h)));
}

pos_not_zero : {q : ℚ} → IsPositive q → q ≢ 0ℚ
pos_not_zero h e = not_pos_zero (subst IsPositive e h)

neg_not_zero : {q : ℚ} → IsPositive (neg_ℚ q) → q ≢ 0ℚ
neg_not_zero h e = pos_not_zero h (ap neg_ℚ e ∙ ring [] (minus (int (pos 0))) (int (pos 0)) refl)

leaves_zero : (p q : ℚ) → p ≢ 0ℚ → Eventually (λ t. t *ℚ p +ℚ q ≢ 0ℚ)
leaves_zero p q n = go (sign p)
  where
    go : Sign p → Eventually (λ t. t *ℚ p +ℚ q ≢ 0ℚ)
    go (is_zero e) = absurd (n e)
    go (is_pos h) = let r = rises p q h in record { from = r.from; holds = λ t le. pos_not_zero (r.holds t le) }
    go (is_neg h) =
        let r = rises (neg_ℚ p) (neg_ℚ q) h in
        record {
          from = r.from;
          holds = λ t le. neg_not_zero (subst IsPositive (ring (t ∷ p ∷ q ∷ []) (var 0 ⊗ minus (var 1) ⊕ minus (var 2)) (minus (var 0 ⊗ var 1 ⊕ var 2)) refl) (r.holds t le));
        }

-- a line with a value that is not zero
pub stays_off_zero : (p q : ℚ) → (p ≢ 0ℚ) ⊎ (q ≢ 0ℚ) → Eventually (λ t. t *ℚ p +ℚ q ≢ 0ℚ)
stays_off_zero p q (inl n) = leaves_zero p q n
stays_off_zero p q (inr n) = go (sign p)
  where
    go : Sign p → Eventually (λ t. t *ℚ p +ℚ q ≢ 0ℚ)
    go (is_zero z) = from_zero (λ t h e. n (
        ring (t ∷ q ∷ []) (var 1) (var 0 ⊗ int (pos 0) ⊕ var 1) refl ∙ ap (λ w. t *ℚ w +ℚ q) (sym z) ∙ e))
    go (is_pos h) = leaves_zero p q (pos_not_zero h)
    go (is_neg h) = leaves_zero p q (neg_not_zero h)
