-- A row that is zero wherever dropped columns are, or is not.
use Rattle.std.proofs.Common.{◌≡◌, ℕ, List, [], ◌∷◌, Bool, true, false, inl, refl, ap, sym, subst, ◌∙◌}
use Rattle.std.specs.Prelude.{◌↔◌, MatchBool}
use Rattle.spec_numbers.specs.Rational.{0ℚ}
use Rattle.spec_numbers.specs.Sums.{factor_of}
use Rattle.spec_simplex.specs.Tableau.{IsNothing, IsSomething, by_constant, by_entry}
use Rattle.cq_form.specs.Entries.{products_of}
use Rattle.cq_frac.specs.declared.row.Entry.{Entry}
use Rattle.cq_frac.specs.Row.{Row}
use Rattle.cq_frac.specs.Rows.{IsRowFrom}
use Rattle.cq_dict.specs.declared.table.Role.{Role}
use Rattle.cq_dict.specs.declared.table.Role.TheVariants.{Basic}
use Rattle.cq_dict.specs.Roles.{IsAt, is_live, role_at}
use Rattle.cq_dict.proofs.Roles.{role_is}
use Rattle.cq_tableau.specs.Forms.{row_of}
use Rattle.cq_tableau.proofs.Tied.{factor_same, entry_not_zero}

module _ (roles : List Role) (n : ℕ) (own : Row) (at : IsAt roles n (Basic own)) where
  -- no live entry: the constant tells
  pub by_number : own.live ≡ [] → (b : Bool) → (b ≡ true) ↔ (own.constant ≡ 0ℚ) → MatchBool b (IsNothing (row_of n (role_at roles n))) (IsSomething (row_of n (role_at roles n)))
  by_number e true h =
      subst (λ s. IsNothing (row_of n s)) (sym (role_is roles n (Basic own) at)) (record { constant = h.0 refl; live = ap products_of e })
  by_number e false h =
      subst (λ s. IsSomething (row_of n s)) (sym (role_is roles n (Basic own) at)) (by_constant (λ z. clash false (h.1 z) refl))
    where
      clash : (b : Bool) → b ≡ true → b ≡ false → ⊥
      clash b e f = cc

  -- a live entry
  pub something : (m : Entry) (rest : List Entry) → own.live ≡ m ∷ rest → IsRowFrom (is_live roles) 0 own.live → IsSomething (row_of n (role_at roles n))
  something m rest e h =
      subst (λ s. IsSomething (row_of n s)) (sym (role_is roles n (Basic own) at))
      (by_entry m.quantity (λ z.
      entry_not_zero (is_live roles) 0 (m ∷ rest) (subst (λ s. IsRowFrom (is_live roles) 0 s) e h) m (inl refl)
      (sym (factor_same m.quantity (m ∷ rest)) ∙ ap (λ s. factor_of m.quantity (products_of s)) (sym e) ∙ z)))
