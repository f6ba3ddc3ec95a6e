-- What an equation that is told makes of a table.
use Rattle.std.specs.Prelude.{◌≡◌, ℕ, List, [], ◌∷◌, ◌++◌, length, None, Some}
use Rattle.spec_numbers.specs.Rational.{ℚ, 0ℚ, ◌+ℚ◌}
use Rattle.spec_linear.specs.Form.{Linear}
use Rattle.spec_linear.specs.Solution.{Has}
use Rattle.cq_frac.specs.declared.VarId.{VarId}
use Rattle.cq_frac.specs.declared.row.Entry.{Entry}
use Rattle.cq_frac.specs.Row.{Row}
use Rattle.cq_frac.specs.Rows.{sum_at}
use Rattle.cq_dict.specs.declared.table.Role.TheVariants.{Live, Basic}
use Rattle.cq_dict.specs.Roles.{AreOverColumns, Expresses, IsEliminated, FormPair, PivotPair}
use Rattle.cq_frac.specs.declared.Operation.{Operation}
use Rattle.cq_frac.specs.declared.Pair.{Pair}
use Rattle.cq_frac.specs.Refused.{IsRefused as Refuses}
use Rattle.spec_linear.specs.Echelon.{AreDistinct}
use Rattle.cq_equations.specs.Told.{new_variables}
use Rattle.cq_dict.specs.Dict.{SameMeaning, RefusesForm}
use Rattle.cq_equations.specs.declared.table.Name.TheVariants.{Variable, Member}
use Rattle.cq_equations.specs.Describes.{placed}
use Rattle.cq_equations.specs.Contents.{Named, variables_of, place_of, solved_in, number_in}

-- these new variables have become live columns, one by one
pub data AddsVariables (old : Named) : List ℕ → Named → Type 0 where
  none_added : AddsVariables old [] old
  one_added : (xs : List ℕ) (mid : Named) → AddsVariables old xs mid → (x : VarId) → (Has x.0 (variables_of mid.names) → ⊥) →
      AddsVariables old (xs ++ x.0 ∷ []) (record { names = mid.names ++ Variable x ∷ []; roles = mid.roles ++ Live ∷ [] })

-- a row that expresses the form stands last
pub record AddsMember (old : Named) (f : Linear) (new : Named) : Type 0 where
  pub row : Row
  pub names : new.names ≡ old.names ++ Member ∷ []
  pub roles : new.roles ≡ old.roles ++ Basic row ∷ []
  pub expresses : Expresses old.roles (λ x. f.constant +ℚ sum_at x (placed (place_of old.names) f.products)) row

-- an operation of that refuses the pair
abbrev pub RefusesMember : Named → Linear → Pair → Type 0
RefusesMember old f pair = RefusesForm old.roles (placed (place_of old.names) f.products) f.constant pair

-- the row's quantity is a dropped column, and the first of its live columns a row
pub record Eliminates (old asked : Named) (row : Row) (new : Named) : Type 0 where
  pub first : Entry
  pub rest : List Entry
  pub live : row.live ≡ first ∷ rest
  pub names : new.names ≡ asked.names
  pub same : SameMeaning asked.roles new.roles
  pub kinds : IsEliminated asked.roles (length old.roles) first.quantity new.roles
  pub table : AreOverColumns new.roles

-- the equation follows where its row is zero, and else it is solved for a variable
pub data Joins (old : Named) (f : Linear) (new : Named) : Type 0 where
  follows : (m : AddsMember old f new) → m.row.live ≡ [] → m.row.constant ≡ 0ℚ → Joins old f new
  eliminates : (asked : Named) (m : AddsMember old f asked) → Eliminates old asked m.row new → Joins old f new

-- its row is a number that is not zero
pub record Contradicts (old : Named) (f : Linear) : Type 0 where
  pub asked : Named
  pub member : AddsMember old f asked
  pub live : member.row.live ≡ []
  pub constant : member.row.constant ≡ 0ℚ → ⊥

-- ---- what a call makes of a table

-- the variables, each once, that have a number in the new table and had none in the old
pub record AreGained (old new : Named) (xs : List ℕ) : Type 0 where
  pub once : AreDistinct xs
  pub gained : (x : ℕ) → Has x xs → (q : ℚ) × (number_in (solved_in new x) ≡ Some q)
  pub before : (x : ℕ) → Has x xs → number_in (solved_in old x) ≡ None
  pub each : (x : ℕ) (q : ℚ) → Has x (variables_of old.names) → number_in (solved_in old x) ≡ None → number_in (solved_in new x) ≡ Some q → Has x xs

-- new variables, and then the equation with the variables that it gives a number
pub record TakesEquation (old : Named) (f : Linear) (fixed : List ℕ) (new : Named) : Type 0 where
  pub known : Named
  pub adds : AddsVariables old (new_variables (variables_of old.names) f) known
  pub joins : Joins known f new
  pub gained : AreGained known new fixed

-- new variables, and then a contradiction
pub record IsRefused (old : Named) (f : Linear) : Type 0 where
  pub known : Named
  pub adds : AddsVariables old (new_variables (variables_of old.names) f) known
  pub contradicts : Contradicts known f

-- the operations of that: of adding the form as a row, and of the row's exchange
pub data EnteringPair (old : Named) (f : Linear) : Operation → ℚ → ℚ → Type 0 where
  in_form : (known : Named) → AddsVariables old (new_variables (variables_of old.names) f) known → {o : Operation} {a b : ℚ} →
      FormPair known.roles (placed (place_of known.names) f.products) f.constant o a b → EnteringPair old f o a b
  in_exchange : (known asked : Named) → AddsVariables old (new_variables (variables_of old.names) f) known → AddsMember known f asked → (column : ℕ) → {o : Operation} {a b : ℚ} →
      PivotPair asked.roles (length known.roles) column o a b → EnteringPair old f o a b

-- one of these operations refuses the pair
abbrev pub RefusesEntering : Named → Linear → Pair → Type 0
RefusesEntering old f pair = EnteringPair old f pair.operation pair.left pair.right × Refuses pair
