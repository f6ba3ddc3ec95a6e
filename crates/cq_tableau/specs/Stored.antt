-- What a store holds at one time: the told list, and quantities with names.
use Rattle.std.specs.Prelude.{◌≡◌, ℕ, ◌<◌, List, [], ◌∷◌, ◌++◌, length, Bool, Some, slice_get, true, ⊤, ◌⊎◌}
use Rattle.spec_numbers.specs.Sums.{Monomial, Mentions}
use Rattle.spec_linear.specs.declared.Relation.{Relation}
use Rattle.spec_linear.specs.declared.Relation.TheVariants.{Eq}
use Rattle.spec_linear.specs.Form.{Linear, variable_form}
use Rattle.spec_linear.specs.Solution.{Constraint, SomeMentions}
use Rattle.spec_linear.specs.Certificate.{member}
use Rattle.spec_projection.specs.Elimination.{IsInequality}
use Rattle.cq_frac.specs.declared.VarId.{VarId}
use Rattle.cq_frac.specs.declared.row.Entry.{Entry}
use Rattle.cq_dict.specs.declared.table.Role.{Role}
use Rattle.cq_dict.specs.Roles.{Quantities, is_dropped, is_restricted}
use Rattle.cq_equations.specs.Told.{numbers_of}
use Rattle.cq_tableau.specs.declared.names.Name.{Name}
use Rattle.cq_tableau.specs.declared.names.Name.TheVariants.{Variable, Member}
use Rattle.cq_tableau.specs.Newly.{AreNewlyFixed}
use Rattle.cq_tableau.specs.Forms.{form_at}
use Rattle.cq_tableau.specs.Keeps.{Keeps, Speaks}

-- the variable has a quantity of its own
abbrev pub IsKnown : List Name → ℕ → Type 0
IsKnown names x = (n : ℕ) × (slice_get names n ≡ Some (Variable (record { 0 = x })))

-- the form is that of the told constraint of this number, from 1
pub record IsMemberForm (told : List Constraint) (i : ℕ) (f : Linear) : Type 0 where
  pub constraint : Constraint
  pub told_at : member told i ≡ Some constraint
  pub form_is : constraint.form ≡ f

-- the quantity is that of a told constraint with such a relation
pub record IsMemberOf (R : Relation → Type 0) (told : List Constraint) (names : List Name) (n : ℕ) : Type 0 where
  pub number : ℕ
  pub named : slice_get names n ≡ Some (Member number)
  pub constraint : Constraint
  pub told_at : member told number ≡ Some constraint
  pub relation_is : R constraint.relation

-- of any relation
abbrev pub IsAny : Relation → Type 0
IsAny r = ⊤

-- an equation
abbrev pub IsEquation : Relation → Type 0
IsEquation r = r ≡ Eq

-- the quantities' forms are those of the variables and constraints that they are named for, and this holds of their tableau
-- and the told list
pub record IsStoredBy (K : List Linear → List Constraint → List Role → List Bool → Type 0) (told : List Constraint) (names : List Name) (q : Quantities) : Type 0 where
  pub forms : List Linear
  pub keeps : K forms told q.roles q.restricted
  pub size : length names ≡ length q.roles
  pub variables : (n : ℕ) (x : VarId) → slice_get names n ≡ Some (Variable x) → form_at forms n ≡ variable_form x.0
  pub members : (n i : ℕ) → slice_get names n ≡ Some (Member i) → IsMemberForm told i (form_at forms n)
  -- each told constraint has a quantity, and no name stands twice
  pub placed : (i : ℕ) (c : Constraint) → member told i ≡ Some c → (n : ℕ) × (slice_get names n ≡ Some (Member i))
  pub once : (m n : ℕ) (t : Name) → slice_get names m ≡ Some t → slice_get names n ≡ Some t → m ≡ n
  -- constraints have ascending numbers
  pub ascends : (m n i j : ℕ) → slice_get names m ≡ Some (Member i) → slice_get names n ≡ Some (Member j) → i < j → m < n
  -- restricted quantities are just those of inequalities, and dropped ones are restricted or equations'
  pub owned : (n : ℕ) → is_restricted q.restricted n ≡ true → IsMemberOf IsInequality told names n
  pub flagged : (n : ℕ) → IsMemberOf IsInequality told names n → is_restricted q.restricted n ≡ true
  pub dropped : (n : ℕ) → is_dropped q.roles n ≡ true → (is_restricted q.restricted n ≡ true) ⊎ IsMemberOf IsEquation told names n
  -- each variable that is mentioned has a quantity
  pub mentioned : (n : ℕ) → n < length names → (x : ℕ) → Mentions x (form_at forms n).products → IsKnown names x
  pub known : (x : ℕ) → SomeMentions x told → IsKnown names x

-- their tableau keeps the invariant
abbrev pub IsStored : List Constraint → List Name → Quantities → Type 0
IsStored told names q = IsStoredBy Keeps told names q

-- their tableau speaks of the weak list, as it does while a constraint joins
abbrev pub IsBetween : List Constraint → List Name → Quantities → Type 0
IsBetween told names q = IsStoredBy Speaks told names q

-- what is stored for a told list with the old names and quantities is so with the new ones
abbrev pub StaysStored : List Name → Quantities → List Name → Quantities → Type 0
StaysStored names q new_names new = (told : List Constraint) → IsStored told names q → IsStored told new_names new

-- the entries are the products, each variable by the number of its quantity
abbrev pub IsPlaced : List Name → List Monomial → List Entry → Type 0
IsPlaced names [] [] = ⊤
IsPlaced names [] (m ∷ s) = ⊥
IsPlaced names (p ∷ ps) [] = ⊥
IsPlaced names (p ∷ ps) (m ∷ s) =
    (slice_get names m.quantity ≡ Some (Variable (record { 0 = p.variable }))) × (m.factor ≡ p.factor) × IsPlaced names ps s

-- the constraint is stored last, and fixes these variables
pub record JoinsStored (told : List Constraint) (c : Constraint) (fixed : List VarId) (names : List Name) (q : Quantities) : Type 0 where
  pub stored : IsStored (told ++ c ∷ []) names q
  pub newly : AreNewlyFixed told (told ++ c ∷ []) (numbers_of fixed)
