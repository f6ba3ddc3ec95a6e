-- Which rows hold a column to zero: none that is not on its list.
use Rattle.std.proofs.Common.{◌≡◌, ℕ, suc, ◌≤◌, List, length, Bool, Some, ◌⊎◌, inl, inr, arith, sym, subst, ◌∙◌}
use Rattle.std.specs.Prelude.{slice_get}
use Rattle.std.proofs.lemmas.Option.{same_Some}
use Rattle.cq_dict.specs.declared.holders.Cell.{Cell}
use Rattle.cq_dict.specs.declared.table.Role.{Role}
use Rattle.cq_dict.specs.declared.table.Role.TheVariants.{Basic}
use Rattle.cq_dict.specs.Holders.{AreHeld, IsOn}
use Rattle.cq_dict.proofs.Lists.{on_rest, none_on}
use Rattle.cq_dict.proofs.Roles.{at_below}
use Rattle.cq_tableau.specs.Looked.{LeavesRoom}
use Rattle.cq_tableau.proofs.Looks.{lacking_leaves}

same_or_not : (q r : ℕ) → (q ≡ r) ⊎ (q ≡ r → ⊥)
same_or_not q r = grind arith

module _ (roles : List Role) (flags : List Bool) (c : ℕ) where
  -- there is no quantity of this number
  pub past_leaves : (q : ℕ) → length roles ≤ q → LeavesRoom roles flags c q
  past_leaves q l r f = let b = at_below roles q (Basic r.0) r.1 in absurd (omega (arith, b, l))

  module _ (cells : List Cell) where
    -- each row that is not on the list leaves room
    abbrev pub OthersLeave : ℕ → Type 0
    OthersLeave h = (q : ℕ) → (IsOn cells h q → ⊥) → LeavesRoom roles flags c q

    pub first_leave : (heads : List ℕ) → AreHeld roles heads cells → (h : ℕ) → slice_get heads c ≡ Some h → OthersLeave h
    first_leave heads held h at q n r f =
        lacking_leaves roles flags c q r.0 r.1
        (λ m k e. let l = held.all q r.0 c r.1 (m, inl k, e) in n (subst (λ z. IsOn cells z q) (same_Some l.0 h (sym l.1 ∙ at)) l.2)) r f

    pub rest_leave : (h : ℕ) (cell : Cell) (k : ℕ) → h ≡ suc k → slice_get cells k ≡ Some cell → LeavesRoom roles flags c cell.row → OthersLeave h → OthersLeave cell.older
    rest_leave h cell k e g l others q n =
        elim (same_or_not q cell.row) [
          | inl s ↦ subst (LeavesRoom roles flags c) (sym s) l
          | inr a ↦ others q (λ o. elim (on_rest cells h cell k q e g o) [ inl s ↦ a s | inr m ↦ n m ])
        ]

    pub all_leave_room : OthersLeave 0 → (q : ℕ) → LeavesRoom roles flags c q
    all_leave_room others q = others q (none_on cells q)
