-- How the variables' numbers are looked up.
use Rattle.std.specs.Prelude.{◌≡◌, ℕ, List, Some, slice_get, nat_eq}
use Rattle.std.specs.Map.{lookup}
use Rattle.cq_frac.specs.declared.VarId.{VarId}
use Rattle.cq_tableau.specs.declared.names.Name.{Name}
use Rattle.cq_tableau.specs.declared.names.Name.TheVariants.{Variable}

-- a look-up of a variable that has a quantity finds its number; what it finds of others does not matter
abbrev pub AreNumbered : List Name → List (VarId × ℕ) → Type 0
AreNumbered names entries = (n : ℕ) (x : VarId) → slice_get names n ≡ Some (Variable x) → lookup (λ y. nat_eq x.0 y.0) entries ≡ Some n
