-- What the role of a variable's quantity tells of its value.
use Rattle.std.proofs.Common.{◌≡◌, ℕ, suc, arith, List, [], ◌∷◌, length, Option, None, Some, true, false, inl, pos, nat_eq, refl, ap, sym, subst, ◌∙◌}
use Rattle.std.specs.Prelude.{slice_get, MatchOption}
use Rattle.spec_numbers.proofs.Tests.{nat_eq-self, nat_eq-same}
use Rattle.spec_numbers.specs.Rational.{ℚ, 0ℚ, 1ℚ, ◌+ℚ◌}
use Rattle.spec_numbers.specs.Sums.{factor_of, when}
use Rattle.spec_numbers.proofs.Ring.{int, ◌⊕◌}
use Rattle.spec_numbers.proofs.RationalLemmas.{ring}
use Rattle.spec_numbers.proofs.Sign.{one_not_zero}
use Rattle.spec_linear.specs.Solution.{Constraint, Fixed}
use Rattle.spec_simplex.proofs.TableauWritten.{fixed, not_fixed}
use Rattle.cq_frac.specs.declared.VarId.{VarId}
use Rattle.cq_form.specs.Entries.{products_of}
use Rattle.cq_frac.specs.declared.row.Entry.{Entry}
use Rattle.cq_frac.specs.Row.{Row}
use Rattle.cq_frac.specs.Rows.{IsRowFrom}
use Rattle.cq_dict.specs.declared.table.Role.TheVariants.{Live, Dropped, Basic}
use Rattle.cq_dict.specs.Roles.{Quantities, IsAt, is_live}
use Rattle.cq_dict.proofs.Roles.{role_is}
use Rattle.cq_tableau.specs.declared.names.Name.{Name}
use Rattle.cq_tableau.specs.declared.names.Name.TheVariants.{Variable}
use Rattle.cq_tableau.specs.Forms.{row_of, tableau}
use Rattle.cq_tableau.specs.Stored.{IsStored}
use Rattle.cq_tableau.specs.Values.{IsOpen, IsNumber, open_row, open_column, number_row, dropped_column}
use Rattle.cq_tableau.proofs.Tied.{factor_same, entry_not_zero}
use Rattle.cq_tableau.proofs.Storing.{variable_place}

module _ (told : List Constraint) (names : List Name) (q : Quantities) (s : IsStored told names q) (n : ℕ) (x : VarId) (e : slice_get names n ≡ Some (Variable x)) where
  -- a row of a constant alone
  pub row_value : (own : Row) → IsAt q.roles n (Basic own) → own.live ≡ [] → Fixed told x.0 own.constant
  row_value own a h =
      let r = role_is q.roles n (Basic own) a in
      subst (λ t. Fixed told x.0 (row_of n t).constant) r
      (fixed (tableau q.roles q.restricted s.forms) told s.keeps.invariant x.0 (variable_place told names q s n x e) (ap (λ t. (row_of n t).live) r ∙ ap products_of h))

  -- a row with a live entry
  pub row_open : (own : Row) → IsAt q.roles n (Basic own) → (m : Entry) (rest : List Entry) → own.live ≡ m ∷ rest → (v : ℚ) → Fixed told x.0 v → ⊥
  row_open own a m rest h =
      let r = role_is q.roles n (Basic own) a in
      not_fixed (tableau q.roles q.restricted s.forms) told s.keeps.invariant x.0 (variable_place told names q s n x e) m.quantity
      (λ z. entry_not_zero (is_live q.roles) 0 (m ∷ rest) (subst (λ l. IsRowFrom (is_live q.roles) 0 l) h (s.keeps.table.rows n own a).live_row) m (inl refl)
      (sym (factor_same m.quantity (m ∷ rest)) ∙ ap (λ l. factor_of m.quantity (products_of l)) (sym h) ∙ ap (λ t. factor_of m.quantity (row_of n t).live) (sym r) ∙ z))

  -- a live column
  pub column_open : IsAt q.roles n Live → (v : ℚ) → Fixed told x.0 v → ⊥
  column_open a =
      not_fixed (tableau q.roles q.restricted s.forms) told s.keeps.invariant x.0 (variable_place told names q s n x e) n
      (λ z. one_not_zero (ring [] (int (pos 1)) (int (pos 1) ⊕ int (pos 0)) refl ∙ ap (λ b. when b 1ℚ +ℚ 0ℚ) (sym (nat_eq-self n)) ∙ ap (λ t. factor_of n (row_of n t).live) (sym (role_is q.roles n Live a)) ∙ z))

  -- a dropped column
  pub dropped_value : IsAt q.roles n Dropped → Fixed told x.0 0ℚ
  dropped_value a =
      let r = role_is q.roles n Dropped a in
      subst (λ t. Fixed told x.0 (row_of n t).constant) r
      (fixed (tableau q.roles q.restricted s.forms) told s.keeps.invariant x.0 (variable_place told names q s n x e) (ap (λ t. (row_of n t).live) r))

  pub open_is : IsOpen q.roles n → (v : ℚ) → Fixed told x.0 v → ⊥
  open_is (open_row own m rest a h) = row_open own a m rest h
  open_is (open_column a) = column_open a

  pub number_is : (v : ℚ) → IsNumber q.roles n v → Fixed told x.0 v
  number_is v (number_row own a h i) = subst (λ w. Fixed told x.0 w) (sym i) (row_value own a h)
  number_is v (dropped_column a i) = subst (λ w. Fixed told x.0 w) (sym i) (dropped_value a)

-- ---- entries, and answers
pub nothing_left : (s : List Entry) → nat_eq (length s) 0 ≡ true → s ≡ []
nothing_left [] e = refl
nothing_left (m ∷ s) e = let h = nat_eq-same (suc (length s)) 0 e in absurd (omega (arith, h))

pub something_left : (s : List Entry) → nat_eq (length s) 0 ≡ false → (m : Entry) × (rest : List Entry) × (s ≡ m ∷ rest)
something_left [] e = cc
something_left (m ∷ s) e = (m, s, refl)

pub answer_of : (o : Option ℚ) (P P' : Type 0) (Q Q' : ℚ → Type 0) → (P → P') → ((v : ℚ) → Q v → Q' v) → MatchOption o P Q → MatchOption o P' Q'
answer_of None P P' Q Q' f g h = f h
answer_of (Some v) P P' Q Q' f g h = g v h
