-- Where a goal is selected, and why a query stops there.
use Rattle.std.specs.Prelude.{ℕ, List}
use Rattle.spec_syntax.specs.Trees.{Tree}
use Rattle.spec_branch.specs.Branch.{Branch}
use Rattle.spec_search.specs.Replies.{Place, Reply}
use Rattle.cq_store.specs.declared.store.StoreFault.{StoreFault}
use Rattle.cq_machine.specs.declared.machine.Machine.{Machine}
use Rattle.cq_machine.specs.Stepping.{IsSelectedAt}
use Rattle.cq_relations.specs.Faults.{IsStopped}

-- Wherever the goal is selected so, its row makes one child, and the query stops while that is settled. Want of memory says
-- nothing.
abbrev pub StopsAt : Machine → ℕ → ℕ → ℕ → (Place → Tree → Reply) → StoreFault → Type 0
StopsAt m id height rest row fault = (p : Place) (behind : List Branch) (goal : Tree) → IsSelectedAt m id height rest p behind goal
    → IsStopped m.world.first.store.pivots fault p (row p goal)

-- the goal of the number is selected somewhere, with this continuation behind it, and a cut in it goes back to the height
abbrev pub IsSelectedFrom : Machine → ℕ → ℕ → ℕ → Type 0
IsSelectedFrom m id height rest = (p : Place) × (behind : List Branch) × (goal : Tree) × IsSelectedAt m id height rest p behind goal
