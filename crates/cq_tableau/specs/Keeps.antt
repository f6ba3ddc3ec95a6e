-- What always holds of the quantities of a store, with their forms, and what is made of them.
use Rattle.std.specs.Prelude.{◌≡◌, ℕ, List, ◌∷◌, length, Bool}
use Rattle.spec_linear.specs.Form.{Linear}
use Rattle.spec_linear.specs.Solution.{Constraint}
use Rattle.spec_linear.specs.Weak.{above_zero, at_least_zero}
use Rattle.spec_simplex.specs.Tableau.{Sound, Invariant, AreDropped}
use Rattle.cq_dict.specs.declared.table.Role.{Role}
use Rattle.cq_dict.specs.Roles.{AreOverColumns, is_dropped}
use Rattle.cq_tableau.specs.Forms.{form_at, tableau, Describes}

-- the quantities make a tableau that keeps the invariant for the list
pub record Keeps (forms : List Linear) (l : List Constraint) (roles : List Role) (flags : List Bool) : Type 0 where
  pub table : AreOverColumns roles
  pub size : length flags ≡ length roles
  pub describes : Describes roles forms
  pub invariant : Invariant (tableau roles flags forms) l
  pub dropped : AreDropped (tableau roles flags forms) l

-- the quantities make a tableau that speaks of the weak list, and where the members stand is to be looked at again
pub record Speaks (forms : List Linear) (l : List Constraint) (roles : List Role) (flags : List Bool) : Type 0 where
  pub table : AreOverColumns roles
  pub size : length flags ≡ length roles
  pub describes : Describes roles forms
  pub sound : Sound (tableau roles flags forms) l
  pub dropped : AreDropped (tableau roles flags forms) l

-- it does so still
abbrev pub StillSpeaks : List Role → List Role → List Bool → Type 0
StillSpeaks old new flags = (forms : List Linear) (l : List Constraint) → Speaks forms l old flags → Speaks forms l new flags

-- it does so still
abbrev pub StillKeeps : List Role → List Role → List Bool → Type 0
StillKeeps old new flags = (forms : List Linear) (l : List Constraint) → Keeps forms l old flags → Keeps forms l new flags

-- it does so for the list with q >= 0 or q > 0 in front
pub record KeepsBoth (forms : List Linear) (l : List Constraint) (q : ℕ) (roles : List Role) (flags : List Bool) : Type 0 where
  pub weak : Keeps forms (at_least_zero (form_at forms q) ∷ l) roles flags
  pub strict : Keeps forms (above_zero (form_at forms q) ∷ l) roles flags

-- no column is dropped or restored
abbrev pub SameDropped : List Role → List Role → Type 0
SameDropped old new = (c : ℕ) → is_dropped new c ≡ is_dropped old c

abbrev pub Joins : ℕ → List Role → List Bool → List Role → List Bool → Type 0
Joins q old flags new new_flags =
    (forms : List Linear) (l : List Constraint) → Keeps forms l old flags → KeepsBoth forms l q new new_flags × SameDropped old new
