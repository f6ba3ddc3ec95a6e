-- The roles of a longer list.
use Rattle.std.proofs.Common.{◌≡◌, ℕ, zero, suc, List, [], ◌∷◌, ◌++◌, length, refl, ap, ◌⊎◌, inl, inr}
use Rattle.cq_dict.specs.declared.table.Role.{Role}
use Rattle.cq_dict.specs.Roles.{IsAt}

pub at_append : (l u : List Role) (i : ℕ) (s : Role) → IsAt l i s → IsAt (l ++ u) i s
at_append [] u i s h = absurd h
at_append (x ∷ l) u zero s h = h
at_append (x ∷ l) u (suc i) s h = at_append l u i s h

pub append_back : (l : List Role) (s t : Role) (i : ℕ) → IsAt (l ++ s ∷ []) i t → IsAt l i t ⊎ ((i ≡ length l) × (t ≡ s))
append_back [] s t zero h = inr (refl, h)
append_back [] s t (suc i) h = absurd h
append_back (x ∷ l) s t zero h = inl h
append_back (x ∷ l) s t (suc i) h = elim (append_back l s t i h) [ inl k ↦ inl k | inr k ↦ inr (ap suc k.0, k.1) ]
