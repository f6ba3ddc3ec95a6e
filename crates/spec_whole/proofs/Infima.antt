-- There is one infimum over the whole solutions, the same for lists with the same solutions.
use Rattle.std.proofs.Common.{◌≡◌, ◌⊎◌, inl, inr, ℕ, List, [], ◌∷◌, pos, refl, subst}
use Rattle.spec_numbers.specs.Rational.{ℚ, 1ℚ, ◌+ℚ◌, ◌<ℚ◌, ◌≤ℚ◌, IsPositive}
use Rattle.spec_numbers.proofs.Ring.{var, int, ◌⊕◌, minus}
use Rattle.spec_numbers.proofs.RationalLemmas.{ring}
use Rattle.spec_numbers.proofs.Sign.{pos_one}
use Rattle.spec_numbers.proofs.Order.{lt_or_le, lt_le_false, le_antisym}
use Rattle.spec_linear.specs.Form.{Linear}
use Rattle.spec_linear.specs.Solution.{Constraint, Equivalent}
use Rattle.spec_whole.specs.Whole.{IsWholeInfimum, HasNoWhole}

module _ (l : List Constraint) (xs : List ℕ) (f : Linear) where
  not_less : (q r : ℚ) → IsWholeInfimum l xs f q → IsWholeInfimum l xs f r → q <ℚ r → ⊥
  not_less q r h k b = let p = h.greatest r b in lt_le_false p.3 (k.bound p.0 p.1 p.2)

  pub one : (q r : ℚ) → IsWholeInfimum l xs f q → IsWholeInfimum l xs f r → q ≡ r
  one q r h k = go (lt_or_le q r) (lt_or_le r q)
    where
      go : (q <ℚ r) ⊎ (r ≤ℚ q) → (r <ℚ q) ⊎ (q ≤ℚ r) → q ≡ r
      go (inl a) b = absurd (not_less q r h k a)
      go (inr a) (inl b) = absurd (not_less r q k h b)
      go (inr a) (inr b) = le_antisym b a

  next : (q : ℚ) → q <ℚ (q +ℚ 1ℚ)
  next q = record { gap = subst IsPositive (ring (q ∷ []) (int (pos 1)) ((var 0 ⊕ int (pos 1)) ⊕ minus (var 0)) refl) pos_one }

  pub never_both : (q : ℚ) → IsWholeInfimum l xs f q → HasNoWhole l xs → ⊥
  never_both q h n = let p = h.greatest (q +ℚ 1ℚ) (next q) in n p.0 p.1 p.2

pub alike : (l m : List Constraint) (xs : List ℕ) (f : Linear) (q : ℚ) → Equivalent l m → IsWholeInfimum l xs f q → IsWholeInfimum m xs f q
alike l m xs f q e h = record {
  bound = λ p s w. h.bound p ((e p).1 s) w;
  greatest = λ r b. (let p = h.greatest r b in (p.0, (e p.0).0 p.1, p.2, p.3));
}

pub alike_none : (l m : List Constraint) (xs : List ℕ) → Equivalent l m → HasNoWhole l xs → HasNoWhole m xs
alike_none l m xs e n p s w = n p ((e p).1 s) w
