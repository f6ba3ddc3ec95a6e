-- Why a query stops where it selects a goal.
use Rattle.std.specs.Prelude.{ℕ, List, ◌∷◌}
use Rattle.spec_simplex.specs.Chains.{IsBlandChain}
use Rattle.spec_simplex.specs.Overflow.{Moment, OverflowDue}
use Rattle.spec_syntax.specs.Trees.{Tree}
use Rattle.spec_branch.specs.Branch.{State, Item, Branch, Pending}
use Rattle.spec_search.specs.Replies.{Place, child}
use Rattle.spec_search.specs.Rows.{reply_of}
use Rattle.spec_search.specs.Steps.{Steps, children}
use Rattle.spec_transcript.specs.Questions.{IsQuestionMoment}
use Rattle.spec_transcript.specs.Settlings.{IsSettlingMoment}
use Rattle.cq_frac.specs.declared.Pair.{Pair}
use Rattle.cq_store.specs.declared.store.StoreFault.{StoreFault}
use Rattle.cq_store.specs.declared.store.StoreFault.TheVariants.{Overflow, Pivots, NoMemory}
use Rattle.cq_machine.specs.declared.machine.Machine.{Machine}
use Rattle.cq_machine.specs.Stepping.{IsSelectedAt}

-- A moment of the goal's turn, in which the linear constraints are asked, or of the next one, in which the first of the children
-- that its step makes is settled.
pub data IsGoalMoment (p : Place) (goal : Tree) (m : Moment) : Type 0 where
  asks : IsQuestionMoment p.state (reply_of p goal) m → IsGoalMoment p goal m
  settles : {items : List Item} {st : State} {work : Pending} {more : List Branch} → Steps p goal (children p (child items st work ∷ more))
      → IsSettlingMoment st work m → IsGoalMoment p goal m

-- Such a moment is why there is this fault, by a budget of so many exchanges. Want of memory says nothing.
pub data IsStop (budget : ℕ) (p : Place) (goal : Tree) : StoreFault → Type 0 where
  overflow : {m : Moment} {pair : Pair} → IsGoalMoment p goal m → OverflowDue m pair → IsStop budget p goal (Overflow pair)
  pivots : {m : Moment} → IsGoalMoment p goal m → IsBlandChain m budget → IsStop budget p goal (Pivots budget)
  no_memory : IsStop budget p goal NoMemory

-- it is why, wherever the goal of the number is selected with this continuation behind it, and a cut in it goes back to the height
abbrev pub StopsThere : Machine → ℕ → ℕ → ℕ → StoreFault → Type 0
StopsThere m id height rest fault = (p : Place) (behind : List Branch) (goal : Tree) → IsSelectedAt m id height rest p behind goal
    → IsStop m.world.first.store.pivots p goal fault
