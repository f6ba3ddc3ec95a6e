-- A dictionary as its callers see it, and its parts at the marks.
use Rattle.std.specs.Prelude.{◌≡◌, ℕ, List, [], ◌∷◌, length, Bool, slice_get, Some}
use Rattle.cq_dict.specs.declared.table.Role.{Role}
use Rattle.cq_dict.specs.Roles.{Quantities, AreQuantities}

-- what each quantity is, and whether it is restricted, in the order of making; these at the live marks, the oldest first;
-- and how many marks find their memory set aside
pub record DictValue : Type 0 where
  pub roles : List Role
  pub restricted : List Bool
  pub saved : List Quantities
  pub room : ℕ

abbrev pub quantities_of : DictValue → Quantities
quantities_of d = record { roles = d.roles; restricted = d.restricted }

-- the quantities at each mark, by the roles and the flags at each
abbrev pub saved_quantities : List (List Role) → List (List Bool) → List Quantities
saved_quantities [] fs = []
saved_quantities (s ∷ ss) [] = []
saved_quantities (s ∷ ss) (f ∷ fs) = record { roles = s; restricted = f } ∷ saved_quantities ss fs

-- the roles and flags now, and at each of the marks that they share, are those of a table
pub record AreMarked (roles : List Role) (restricted : List Bool) (ss : List (List Role)) (fs : List (List Bool)) : Type 0 where
  pub now : AreQuantities (record { roles = roles; restricted = restricted })
  pub together : length fs ≡ length ss
  pub marks : (k : ℕ) (s : List Role) (f : List Bool) → slice_get ss k ≡ Some s → slice_get fs k ≡ Some f → AreQuantities (record { roles = s; restricted = f })
