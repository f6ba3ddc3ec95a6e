-- The variables whose value is open, and those of them that have a value afterwards.
use Rattle.std.specs.Prelude.{◌≡◌, ◌⊎◌, ℕ, ◌<◌, List, Some, slice_get, slice_index}
use Rattle.spec_numbers.specs.Rational.{ℚ}
use Rattle.spec_linear.specs.Solution.{Constraint, Has, Fixed}
use Rattle.spec_linear.specs.Echelon.{AreDistinct}
use Rattle.cq_frac.specs.declared.VarId.{VarId}
use Rattle.cq_dict.specs.declared.table.Role.{Role}
use Rattle.cq_dict.specs.Roles.{Quantities}
use Rattle.cq_tableau.specs.declared.names.Name.{Name}
use Rattle.cq_tableau.specs.declared.names.Name.TheVariants.{Variable}
use Rattle.cq_tableau.specs.Stored.{IsStored}
use Rattle.cq_equations.specs.Told.{numbers_of}
use Rattle.cq_tableau.specs.Values.{IsOpen, IsNumber}

-- no name stands twice
abbrev pub AreOnce : List Name → Type 0
AreOnce names = (m n : ℕ) (t : Name) → slice_get names m ≡ Some t → slice_get names n ≡ Some t → m ≡ n

-- the quantity is no variable's, or has a value
abbrev pub HasNumber : List Name → List Role → ℕ → Type 0
HasNumber names roles n = (x : VarId) → slice_get names n ≡ Some (Variable x) → (v : ℚ) × IsNumber roles n v

-- it is the variable's, and open
abbrev pub IsOpenHere : List Name → List Role → ℕ → VarId → Type 0
IsOpenHere names roles n x = (slice_get names n ≡ Some (Variable x)) × IsOpen roles n

-- the open variables of the quantities at the places below a number
pub record AreOpenAt (at : ℕ → ℕ) (names : List Name) (roles : List Role) (count : ℕ) (xs : List VarId) : Type 0 where
  pub once : AreDistinct (numbers_of xs)
  pub each : (x : ℕ) → Has x (numbers_of xs) → (k : ℕ) × (k < count) × IsOpenHere names roles (at k) (record { 0 = x })
  pub all : (k : ℕ) (x : VarId) → k < count → slice_get names (at k) ≡ Some (Variable x) → Has x.0 (numbers_of xs) ⊎ ((v : ℚ) × IsNumber roles (at k) v)

-- those of the quantities below a number
abbrev pub AreOpen : List Name → List Role → ℕ → List VarId → Type 0
AreOpen names roles count xs = AreOpenAt (λ n. n) names roles count xs

-- those of so many of the quantities of these numbers
abbrev pub AreOpenAmong : List ℕ → List Name → List Role → ℕ → List VarId → Type 0
AreOpenAmong rows names roles count xs = AreOpenAt (slice_index rows) names roles count xs

-- the told list gives the variable a value, whatever list is stored
abbrev pub HasValue : List Name → Quantities → ℕ → Type 0
HasValue names q x = (told : List Constraint) → IsStored told names q → (v : ℚ) × Fixed told x v

abbrev pub HasNoValue : List Name → Quantities → ℕ → Type 0
HasNoValue names q x = (told : List Constraint) → IsStored told names q → (v : ℚ) → Fixed told x v → ⊥

-- those of the variables that have a value
pub record AreFixedNow (names : List Name) (q : Quantities) (before : List VarId) (xs : List VarId) : Type 0 where
  pub once : AreDistinct (numbers_of before) → AreDistinct (numbers_of xs)
  pub each : (x : ℕ) → Has x (numbers_of xs) → Has x (numbers_of before) × HasValue names q x
  pub all : (x : ℕ) → Has x (numbers_of before) → Has x (numbers_of xs) ⊎ HasNoValue names q x
