-- A constraint of which the form is asked: what becomes of its row.
use Rattle.std.proofs.Common.{◌≡◌, ℕ, ◌+◌, List, [], ◌∷◌, ◌++◌, length, true, refl, subst}
use Rattle.std.specs.Prelude.{slice_set}
use Rattle.spec_numbers.specs.Rational.{ℚ}
use Rattle.spec_linear.specs.declared.Relation.TheVariants.{Ne}
use Rattle.spec_linear.specs.Solution.{Constraint}
use Rattle.spec_linear.specs.Certificate.{Refutes}
use Rattle.spec_projection.specs.Elimination.{IsInequality}
use Rattle.spec_simplex.specs.Tableau.{IsNothing, IsSomething}
use Rattle.cq_frac.specs.declared.VarId.{VarId}
use Rattle.cq_frac.specs.Row.{Row}
use Rattle.cq_dict.specs.declared.table.Role.TheVariants.{Basic}
use Rattle.cq_dict.specs.Roles.{Quantities, IsAt, role_at}
use Rattle.cq_tableau.specs.declared.names.Name.{Name}
use Rattle.cq_tableau.specs.declared.names.Name.TheVariants.{Member}
use Rattle.cq_tableau.specs.Asking.{AsksForm}
use Rattle.cq_tableau.specs.Forms.{row_of}
use Rattle.cq_tableau.specs.Keeps.{Joins}
use Rattle.cq_tableau.specs.Refuted.{IsTwoRuns}
use Rattle.cq_tableau.specs.Stored.{IsStored, JoinsStored}
use Rattle.cq_tableau.proofs.Certified.{disequation_refuted}
use Rattle.cq_tableau.proofs.Storing.{inequality_stored, disequation_stored}

module _ (told : List Constraint) (names : List Name) (q : Quantities) (s : IsStored told names q) (c : Constraint) (new_names : List Name) (mid : Quantities) (n : ℕ)
    (a : AsksForm names q c.form new_names mid n) where
  -- an inequality that rises
  pub risen_joins : IsInequality c.relation → (new : Quantities) → new.restricted ≡ slice_set mid.restricted n true → Joins n mid.roles mid.restricted new.roles new.restricted
      → (later : List Name) → later ≡ new_names ++ Member (length told + 1) ∷ [] → (fixed : List VarId) → fixed ≡ [] → JoinsStored told c fixed later new
  risen_joins i new e j later l =
      inequality_stored told new_names a.before (a.stays told s) c a.entries a.placed mid.roles a.row a.defines a.table mid.restricted a.flags i n a.number new e j
      (length told + 1) refl later l

  -- a disequation that is not zero
  pub something_joins : c.relation ≡ Ne → IsSomething (row_of n (role_at mid.roles n)) → (later : List Name) → later ≡ new_names ++ Member (length told + 1) ∷ []
      → (fixed : List VarId) → fixed ≡ [] → JoinsStored told c fixed later mid
  something_joins i z later l =
      disequation_stored told new_names a.before (a.stays told s) c a.entries a.placed mid.roles a.row a.defines a.table mid.restricted a.flags i n a.number z
      (length told + 1) refl later l

  -- one that is zero, with the certificate of its row
  pub nothing_refuted : c.relation ≡ Ne → IsNothing (row_of n (role_at mid.roles n)) → (cert : List (ℕ × ℚ))
      → ((own : Row) → IsAt mid.roles n (Basic own) → IsTwoRuns told new_names (length told + 1) own cert) → Refutes cert (told ++ c ∷ [])
  nothing_refuted i z cert x =
      disequation_refuted told new_names a.before (a.stays told s) c i a.entries a.placed mid.roles a.row a.defines a.table mid.restricted a.flags n a.number z
      (length told + 1) refl cert x

-- the same of an equal constraint
pub asked_of : (names : List Name) (q : Quantities) (k c : Constraint) → k ≡ c → (new_names : List Name) (mid : Quantities) (n : ℕ)
    → AsksForm names q k.form new_names mid n → AsksForm names q c.form new_names mid n
asked_of names q k c e new_names mid n = subst (λ (z : Constraint). AsksForm names q z.form new_names mid n) e
