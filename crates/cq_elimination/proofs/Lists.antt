-- What stands in a list.
use Rattle.std.proofs.Common.{◌≡◌, inl, inr, ℕ, zero, suc, ◌<◌, List, [], ◌∷◌, length, get_or, arith, sym, subst}
use Rattle.spec_linear.specs.Solution.{Has}

pub has_at : {A : Type 0} (l : List A) (i : ℕ) (x : A) → i < length l → x ≡ get_or l i x → Has x l
has_at [] i x h e = absurd (omega (arith, h))
has_at (y ∷ l) zero x h e = inl e
has_at (y ∷ l) (suc i) x h e = inr (has_at l i x (omega (arith, h)) e)

-- what stands in one item's list
pub only : {A : Type 0} (l : List A) (x : A) → Has x l → (y : A) → Has y (x ∷ []) → Has y l
only l x h y (inl e) = subst (λ z. Has z l) (sym e) h
only l x h y (inr k) = absurd k
