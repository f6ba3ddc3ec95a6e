-- The values that a store's rows give all variables at once.
use Rattle.std.proofs.Common.{◌≡◌, ℕ, ◌<◌, List, [], ◌∷◌, Option, None, Some, ◌⊎◌, inl, inr, refl, ap, sym, subst}
use Rattle.std.specs.Prelude.{MatchOption}
use Rattle.std.proofs.lemmas.Option.{slice_get_within}
use Rattle.spec_numbers.specs.Rational.{ℚ, 0ℚ}
use Rattle.spec_linear.specs.Solution.{Constraint, Fixed, Fixes}
use Rattle.spec_linear.proofs.Lists.{fixed_once}
use Rattle.cq_frac.specs.declared.row.Entry.{Entry}
use Rattle.cq_dict.specs.declared.table.Role.{Role}
use Rattle.cq_dict.specs.declared.table.Role.TheVariants.{Live, Dropped, Basic}
use Rattle.cq_dict.specs.Roles.{Quantities, IsAt, role_at}
use Rattle.cq_dict.proofs.Roles.{at_exists, role_is}
use Rattle.cq_tableau.specs.declared.names.Name.{Name}
use Rattle.cq_tableau.specs.declared.names.Name.TheVariants.{Variable}
use Rattle.cq_tableau.specs.Stored.{IsKnown, IsStored}
use Rattle.cq_tableau.specs.Values.{open_row, open_column, number_row, dropped_column}
use Rattle.cq_tableau.proofs.Fixed.{open_is, number_is}
use Rattle.cq_tableau.proofs.Storing.{known_or_not, unknown_not_fixed}

-- answers for each variable are a map of the fixed values
fixes_of : (l : List Constraint) (fixed : ℕ → Option ℚ) → ((x : ℕ) → MatchOption (fixed x) ((v : ℚ) → Fixed l x v → ⊥) (λ v. Fixed l x v)) → Fixes l fixed
fixes_of l fixed answers = record { sound = λ x v e. sound x v (fixed x) (answers x) e; complete = λ x v f. complete x v (fixed x) (answers x) f }
  where
    sound : (x : ℕ) (v : ℚ) (o : Option ℚ) → MatchOption o ((w : ℚ) → Fixed l x w → ⊥) (λ w. Fixed l x w) → o ≡ Some v → Fixed l x v
    sound x v None a e = cc
    sound x v (Some w) a e = let same : w ≡ v = cc in subst (Fixed l x) same a

    complete : (x : ℕ) (v : ℚ) (o : Option ℚ) → MatchOption o ((w : ℚ) → Fixed l x w → ⊥) (λ w. Fixed l x w) → Fixed l x v → o ≡ Some v
    complete x v None a f = absurd (a v f)
    complete x v (Some w) a f = ap Some (fixed_once l x w v a f)

-- the number that a role is: a row's without entries, and 0 of a dropped column
abbrev number_in_row : List Entry → ℚ → Option ℚ
number_in_row [] v = Some v
number_in_row (m ∷ rest) v = None

abbrev number_in : Role → Option ℚ
number_in Live = None
number_in Dropped = Some 0ℚ
number_in (Basic own) = number_in_row own.live own.constant

-- that of a variable with a quantity
abbrev number_if : List Role → (names : List Name) (x : ℕ) → IsKnown names x ⊎ (IsKnown names x → ⊥) → Option ℚ
number_if roles names x (inl k) = number_in (role_at roles k.0)
number_if roles names x (inr n) = None

module _ (told : List Constraint) (names : List Name) (q : Quantities) (s : IsStored told names q) where
  by_role : (x : ℕ) (k : IsKnown names x) (t : Role) → IsAt q.roles k.0 t → MatchOption (number_in t) ((v : ℚ) → Fixed told x v → ⊥) (λ v. Fixed told x v)
  by_role x k Live a = open_is told names q s k.0 (record { 0 = x }) k.1 (open_column a)
  by_role x k Dropped a = number_is told names q s k.0 (record { 0 = x }) k.1 0ℚ (dropped_column a refl)
  by_role x k (Basic own) a = go own.live refl
    where
      go : (live : List Entry) → own.live ≡ live → MatchOption (number_in_row live own.constant) ((v : ℚ) → Fixed told x v → ⊥) (λ v. Fixed told x v)
      go [] e = number_is told names q s k.0 (record { 0 = x }) k.1 own.constant (number_row own a e refl)
      go (m ∷ rest) e = open_is told names q s k.0 (record { 0 = x }) k.1 (open_row own m rest a e)

  by_name : (x : ℕ) (o : IsKnown names x ⊎ (IsKnown names x → ⊥)) → MatchOption (number_if q.roles names x o) ((v : ℚ) → Fixed told x v → ⊥) (λ v. Fixed told x v)
  by_name x (inl k) =
      let t = at_exists q.roles k.0 (subst (λ m. k.0 < m) s.size (slice_get_within names k.0 (Variable (record { 0 = x })) k.1)) in
      subst (λ r. MatchOption (number_in r) ((v : ℚ) → Fixed told x v → ⊥) (λ v. Fixed told x v)) (sym (role_is q.roles k.0 t.0 t.1)) (by_role x k t.0 t.1)
  by_name x (inr n) = unknown_not_fixed told names q s x n

  pub stored_fixes : (fixed : ℕ → Option ℚ) × Fixes told fixed
  stored_fixes = (
    (λ x. number_if q.roles names x (known_or_not names x)),
    fixes_of told (λ x. number_if q.roles names x (known_or_not names x)) (λ x. by_name x (known_or_not names x)),
  )
