-- What an exchange leaves dropped, and where rows stand.
use Rattle.std.proofs.Common.{◌≡◌, ℕ, ◌<◌, ◌≤◌, List, length, true, arith, sym, subst, ◌∙◌, inl, inr}
use Rattle.cq_dict.specs.declared.table.Role.{Role}
use Rattle.cq_dict.specs.declared.table.Role.TheVariants.{Live, Basic}
use Rattle.cq_dict.specs.Roles.{IsRow, IsExchanged, is_live, is_dropped, is_row}
use Rattle.cq_dict.proofs.Roles.{dropped_at, at_below, equal_or_not, found, live_is_not_dropped}

module _ (old new : List Role) where
  -- no quantity is dropped by an exchange
  pub dropped_after : (row column : ℕ) → IsRow old row → is_live old column ≡ true → IsExchanged old row column new → (q : ℕ) → is_dropped new q ≡ is_dropped old q
  dropped_after row column r l x q = elim (equal_or_not q row) [
    | inl e ↦ subst (λ z. is_dropped new z ≡ is_dropped old z) (sym e) (dropped_at new row Live x.leaves ∙ sym (dropped_at old row (Basic r.0) r.1))
    | inr n ↦ elim (equal_or_not q column) [
      | inl e ↦ subst (λ z. is_dropped new z ≡ is_dropped old z) (sym e) (dropped_at new column (Basic x.enters.0) x.enters.1 ∙ sym (live_is_not_dropped old column l))
      | inr m ↦ (x.others q n m).dropped
    ]
  ]

-- a row's number is below the count
pub all_below : (roles : List Role) (i q : ℕ) → is_row roles q ≡ true → length roles ≤ i → q < i
all_below roles i q h l = let f = found roles q h in omega (arith, l, at_below roles q (Basic f.row) f.at)
