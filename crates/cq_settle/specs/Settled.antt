-- What settling makes of a world.
use Rattle.std.specs.Prelude.{◌≡◌, ℕ, ◌<◌, ◌≤◌, List, [], map, length, All, ⊤, Option, None, Some}
use Rattle.std.specs.List.{filter_map}
use Rattle.spec_numbers.specs.Rational.{ℚ}
use Rattle.spec_linear.specs.Solution.{Constraint}
use Rattle.spec_simplex.specs.Overflow.{Moment, OverflowDue}
use Rattle.spec_simplex.specs.Chains.{IsBlandChain}
use Rattle.spec_numbers.specs.Texts.{Text}
use Rattle.spec_terms.specs.Term.{Subst, apply, followed_by}
use Rattle.spec_syntax.specs.Trees.{Tree}
use Rattle.spec_branch.specs.Branch.{State, Item, Pending, Sleeper}
use Rattle.spec_branch.specs.Settling.{SleeperState, Sleeps, Wakes, state_of, bindings_after, kept_branch, Why, SettlesUnified, Kept}
use Rattle.spec_branch.specs.Settling as outcome
use Rattle.spec_transcript.specs.Settlings.{IsSettlingMoment}
use Rattle.cq_frac.specs.declared.Pair.{Pair}
use Rattle.cq_term.specs.Trees.{tree, trees}
use Rattle.cq_settle.specs.Contents.{Contents}
use Rattle.cq_settle.specs.Worlds.{room_of}
use Rattle.cq_settle.specs.Rest.{IsReadyAs}
use Rattle.cq_settle.specs.declared.world.World.{World}
use Rattle.cq_settle.specs.declared.settling.Settled.{Settled}
use Rattle.cq_settle.specs.declared.settling.Settled.TheVariants.{Woken, Pruned}

-- a fact of the goals that woke, where the branch is kept
abbrev pub IfWoken : Settled → (List ℕ → Type 0) → Type 0
IfWoken (Woken goals) P = P goals.items
IfWoken Pruned P = ⊤

-- a fact, where it is pruned
abbrev pub IfPruned : Settled → Type 0 → Type 0
IfPruned (Woken goals) P = ⊤
IfPruned Pruned P = P

-- the goals that wake, ascending by number
abbrev pub woken_goal : SleeperState → Option Tree
woken_goal (Wakes g) = Some g
woken_goal Sleeps = None

abbrev pub woken_goals : Subst Text → List Sleeper → List Tree
woken_goals s ks = filter_map (λ k. woken_goal (state_of s k.asleep)) ks

-- the branch is kept, and the world is its state, with nothing left to settle
pub record IsKept (texts : List Text) (old new : Contents) (goals : List ℕ) (st : State) (p : Pending) (u : Subst Text) : Type 0 where
  pub linear : List Constraint
  pub waiting : List Tree
  pub fixed : ℕ → Option ℚ
  pub settles : (items : List Item) → SettlesUnified items st p u (Kept (kept_branch items st p u linear waiting fixed))
  pub ready : IsReadyAs texts new (kept_branch [] st p u linear waiting fixed).state
  -- each older term stays, and what was read under the unified bindings is read under those of the branch
  pub live : length old.heap.terms ≤ length new.heap.terms
  pub reads : (id : ℕ) (t : Tree) → id < length old.heap.terms → tree texts old.heap.terms id ≡ apply (followed_by st.bindings u) t
      → tree texts new.heap.terms id ≡ apply (bindings_after st p u fixed) t
  pub goals_live : All (λ id. id < length new.heap.terms) goals
  pub woken : trees texts new.heap.terms goals ≡ map (apply (bindings_after st p u fixed)) (woken_goals (bindings_after st p u fixed) st.sleepers)

-- the branch is pruned
abbrev pub IsPruned : State → Pending → Subst Text → Type 0
IsPruned st p u = (why : Why) × ((items : List Item) → SettlesUnified items st p u (outcome.Pruned why))

-- in a moment of the settling an operation is due that refuses the pair
pub record MayRefuse (st : State) (p : Pending) (pair : Pair) : Type 0 where
  pub moment : Moment
  pub of_settling : IsSettlingMoment st p moment
  pub due : OverflowDue moment pair

-- in a moment of the settling so many exchanges are made for an asked form, and another is due
pub record MayTake (st : State) (p : Pending) (n : ℕ) : Type 0 where
  pub moment : Moment
  pub of_settling : IsSettlingMoment st p moment
  pub chain : IsBlandChain moment n

-- the marks and the budget of exchanges stay, and no mark loses the memory that was set aside for it
pub record KeepsMarks (old new : World) : Type 0 where
  pub heap : new.heap.saved ≡ old.heap.saved
  pub attrs : new.attrs.saved ≡ old.attrs.saved
  pub store : new.store.saved ≡ old.store.saved
  pub pivots : new.store.pivots ≡ old.store.pivots
  pub room : room_of old ≤ room_of new
