-- An equation that mentions a variable of which the told list says nothing.
use Rattle.std.specs.Prelude.{◌≡◌, ◌⊎◌, ℕ, ◌≤◌, List, [], ◌∷◌, Some, slice_get}
use Rattle.spec_numbers.specs.Rational.{ℚ, 0ℚ}
use Rattle.spec_numbers.specs.Sums.{factor_of}
use Rattle.spec_linear.specs.Solution.{Constraint, SomeMentions}
use Rattle.cq_frac.specs.declared.VarId.{VarId}
use Rattle.cq_frac.specs.declared.row.Entry.{Entry}
use Rattle.cq_frac.specs.Rows.{Has}
use Rattle.cq_dict.specs.declared.table.Role.{Role}
use Rattle.cq_tableau.specs.declared.names.Name.{Name}
use Rattle.cq_tableau.specs.declared.names.Name.TheVariants.{Variable}
use Rattle.cq_tableau.specs.Values.{IsOpen, IsNumber}

-- the quantity is that of a variable that the constraint's form has, and that no told constraint mentions
pub record IsNewIn (told : List Constraint) (names : List Name) (c : Constraint) (n : ℕ) : Type 0 where
  pub variable : VarId
  pub named : slice_get names n ≡ Some (Variable variable)
  pub unmentioned : SomeMentions variable.0 told → ⊥
  pub factor : factor_of variable.0 c.form.products ≡ 0ℚ → ⊥

-- the variable of the quantity, if it has a value
abbrev pub IsAloneFixed : List Name → List Role → ℕ → List VarId → Type 0
IsAloneFixed names roles n xs =
    (x : VarId) → slice_get names n ≡ Some (Variable x) → ((xs ≡ x ∷ []) × (v : ℚ) × IsNumber roles n v) ⊎ ((xs ≡ []) × IsOpen roles n)

-- a place's quantity that is behind the first ones
pub record IsPlaceBehind (known : ℕ) (places : List Entry) (n : ℕ) : Type 0 where
  pub entry : Entry
  pub has : Has entry places
  pub quantity : entry.quantity ≡ n
  pub behind : known ≤ n
