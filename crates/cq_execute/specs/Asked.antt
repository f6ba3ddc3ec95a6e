-- What a goal that asks the linear constraints comes to on a machine, as a step of the search, and why a query stops at it.
use Rattle.std.specs.Prelude.{◌≡◌, ◌⊎◌, ℕ, List, [], ◌∷◌, Option, Some, None, ⊤}
use Rattle.spec_syntax.specs.Trees.{Tree}
use Rattle.spec_branch.specs.Branch.{State, Branch, Pending}
use Rattle.spec_search.specs.Replies.{Place, Reply, child}
use Rattle.spec_search.specs.Rows.{reply_of}
use Rattle.spec_search.specs.Steps.{Steps, Children, children, ball_of}
use Rattle.spec_transcript.specs.Questions.{IsQuestionMoment}
use Rattle.cq_built.specs.Errors.{error_tree}
use Rattle.cq_store.specs.declared.store.StoreFault.{StoreFault}
use Rattle.cq_store.specs.declared.store.StoreFault.TheVariants as fault
use Rattle.cq_questions.specs.Stops.{RefusesIn, TakesIn}
use Rattle.cq_settle.specs.Settled.{MayRefuse, MayTake}
use Rattle.cq_branch.specs.Worlds.{Leads}
use Rattle.cq_machine.specs.declared.machine.Machine.{Machine}
use Rattle.cq_machine.specs.declared.step.Step.{Step}
use Rattle.cq_machine.specs.declared.step.Step.TheVariants.{Goes, Back, Raises, Throws, Refuses}
use Rattle.cq_machine.specs.Machines.{terms, now, holds}
use Rattle.cq_machine.specs.Stepping.{IsSelectedAt}

-- ---- steps

-- the machine leads to what a reply makes, and the goal's step makes that
pub record StepsOn (m : Machine) (current : Option ℕ) (p : Place) (behind : List Branch) (goal : Tree) : Type 0 where
  pub reply : Reply
  pub leads : Leads m.atoms (holds m) (now m) current p behind reply
  pub step : Steps p goal (Children leads.made)

-- the machine has come to what the goal's step makes, or the goal's step is the ball of the error
abbrev pub Takes : Machine → Step → Place → List Branch → Tree → Type 0
Takes m (Goes k) p behind goal = StepsOn m (Some k) p behind goal
Takes m Back p behind goal = StepsOn m None p behind goal
Takes m (Raises e) p behind goal = Steps p goal (ball_of goal (error_tree m.atoms (terms m) e))
Takes m (Throws id) p behind goal = ⊥
Takes m (Refuses pair) p behind goal = ⊥

-- wherever the goal of the number is selected, and this is its row, the machine has come to its step
abbrev pub TakesStep : Machine → Machine → ℕ → ℕ → (Place → Tree → Reply) → Step → Type 0
TakesStep old new id rest row s = (height : ℕ) (p : Place) (behind : List Branch) (goal : Tree) → IsSelectedAt old id height rest p behind goal
    → reply_of p goal ≡ row p goal → Takes new s p behind goal

-- ---- stops

-- the goal's step makes one child, which goes on behind the goal, and this holds of its state and its work
pub record StepsToOne (p : Place) (goal : Tree) (P : State → Pending → Type 0) : Type 0 where
  pub work : Pending
  pub step : Steps p goal (children p (child p.rest p.state work ∷ []))
  pub holds : P p.state work

-- Why the query stops at the goal, by a budget of so many exchanges: in a moment of the question that its reply is, or while its
-- step's one child is settled. Want of memory says nothing.
abbrev pub IsStoppedAt : ℕ → StoreFault → Place → Tree → Type 0
IsStoppedAt pivots (fault.Overflow pair) p goal =
    RefusesIn (IsQuestionMoment p.state (reply_of p goal)) pair ⊎ StepsToOne p goal (λ st work. MayRefuse st work pair)
IsStoppedAt pivots (fault.Pivots n) p goal =
    (n ≡ pivots) × (TakesIn (IsQuestionMoment p.state (reply_of p goal)) n ⊎ StepsToOne p goal (λ st work. MayTake st work n))
IsStoppedAt pivots fault.NoMemory p goal = ⊤

-- wherever the goal of the number is selected, and this is its row, the query stops so
abbrev pub StopsStep : Machine → ℕ → ℕ → (Place → Tree → Reply) → StoreFault → Type 0
StopsStep m id rest row f = (height : ℕ) (p : Place) (behind : List Branch) (goal : Tree) → IsSelectedAt m id height rest p behind goal
    → reply_of p goal ≡ row p goal → IsStoppedAt m.world.first.store.pivots f p goal
