-- What is asked of a list whose quantities are stored.
use Rattle.std.specs.Prelude.{◌≡◌, ℕ, List}
use Rattle.spec_linear.specs.Form.{Linear}
use Rattle.spec_linear.specs.Solution.{Constraint}
use Rattle.spec_simplex.specs.Asked.{IsAsked, NoQuestion}
use Rattle.cq_frac.specs.declared.Pair.{Pair}
use Rattle.cq_dict.specs.Roles.{Quantities}
use Rattle.cq_tableau.specs.declared.names.Name.{Name}
use Rattle.cq_tableau.specs.Stored.{IsStored}
use Rattle.cq_store.specs.StoreValue.{MayRefuse, MayTake, Only}

-- what holds of each told list for which these quantities are stored
abbrev pub OfStored : List Name → Quantities → (List Constraint → Type 0) → Type 0
OfStored names q P = (told : List Constraint) → IsStored told names q → P told

-- where the form is asked for a question, an operation that is due refuses the pair
abbrev pub RefusesQuestion : List Constraint → Linear → Pair → Type 0
RefusesQuestion told f pair = (c : Constraint) → IsAsked told NoQuestion (Only c) f → MayRefuse told NoQuestion (Only c) pair

-- where the form is asked for a question, the number of the budget of exchanges is made, and another is due
abbrev pub SpendsQuestion : List Constraint → Linear → ℕ → ℕ → Type 0
SpendsQuestion told f n budget = (n ≡ budget) × ((c : Constraint) → IsAsked told NoQuestion (Only c) f → MayTake told NoQuestion (Only c) n)

-- an operation for the asked form refuses the pair, whatever told list these quantities are stored for
abbrev pub RefusesOfStored : List Name → Quantities → Linear → Pair → Type 0
RefusesOfStored names q f pair = OfStored names q (λ told. RefusesQuestion told f pair)

-- so many exchanges are made for it, and another is due
abbrev pub SpendsOfStored : List Name → Quantities → Linear → ℕ → ℕ → Type 0
SpendsOfStored names q f n budget = OfStored names q (λ told. SpendsQuestion told f n budget)
