-- Why a question to the linear constraints stops.
use Rattle.std.specs.Prelude.{◌≡◌, ℕ, List, ⊤}
use Rattle.spec_numbers.specs.Rational.{ℚ}
use Rattle.spec_linear.specs.Solution.{Constraint}
use Rattle.spec_simplex.specs.Chains.{IsBlandChain}
use Rattle.spec_simplex.specs.Overflow.{Moment, OverflowDue}
use Rattle.spec_syntax.specs.Trees.{Tree}
use Rattle.spec_branch.specs.Branch.{State, Branch}
use Rattle.spec_search.specs.Builtins.{Side}
use Rattle.spec_search.specs.Replies.{IfEntailed, WithExtent}
use Rattle.spec_transcript.specs.Questions.{IsQuestionMoment}
use Rattle.cq_frac.specs.declared.Pair.{Pair}
use Rattle.cq_store.specs.declared.store.StoreFault.{StoreFault}
use Rattle.cq_store.specs.declared.store.StoreFault.TheVariants.{Overflow, Pivots, NoMemory}

-- in some such moment an operation on the pair is due, and is refused
pub record RefusesIn (P : Moment → Type 0) (pair : Pair) : Type 0 where
  pub moment : Moment
  pub is : P moment
  pub due : OverflowDue moment pair

-- in some such moment so many exchanges are made for an asked form, and another is due
pub record TakesIn (P : Moment → Type 0) (n : ℕ) : Type 0 where
  pub moment : Moment
  pub is : P moment
  pub chain : IsBlandChain moment n

-- such a moment is why there is this fault, by a budget of so many exchanges; want of memory says nothing
abbrev pub IsDueIn : (Moment → Type 0) → ℕ → StoreFault → Type 0
IsDueIn P pivots (Overflow pair) = RefusesIn P pair
IsDueIn P pivots (Pivots n) = (n ≡ pivots) × TakesIn P n
IsDueIn P pivots NoMemory = ⊤

-- what holds of each state with this list
abbrev pub AtStates : List Constraint → (State → Type 0) → Type 0
AtStates l P = (st : State) → st.linear ≡ l → P st

-- a moment of a goal in this state that asks whether these members are entailed is why there is this fault, whatever its child
abbrev pub MembersStop : ℕ → State → List Tree → StoreFault → Type 0
MembersStop pivots st ms f = (b : Branch) → IsDueIn (IsQuestionMoment st (IfEntailed ms b)) pivots f

-- so is a moment of one that asks for the extent of the expression
abbrev pub ExtentStops : ℕ → State → Side → Tree → StoreFault → Type 0
ExtentStops pivots st side e f = (next : ℚ → Branch) → IsDueIn (IsQuestionMoment st (WithExtent side e next)) pivots f
