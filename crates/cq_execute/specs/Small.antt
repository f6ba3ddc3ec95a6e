-- What holds once a goal was executed with a small result.
use Rattle.std.specs.Prelude.{◌≡◌, ◌<◌, ℕ, List, [], length, Option, Some, None, Ok, Err, IfOk, OnErr, ⊤}
use Rattle.std.specs.declared.alloc.AllocError.{AllocError}
use Rattle.std.specs.declared.result.Result.{Result}
use Rattle.spec_syntax.specs.Trees.{Tree}
use Rattle.spec_branch.specs.Branch.{Branch, Copied}
use Rattle.spec_search.specs.Replies as reply
use Rattle.spec_search.specs.Replies.{Place}
use Rattle.spec_search.specs.Rows.{reply_of}
use Rattle.spec_search.specs.Steps.{Steps, Ball}
use Rattle.cq_frac.specs.declared.Pair.{Pair}
use Rattle.cq_store.specs.declared.store.StoreFault.{StoreFault}
use Rattle.cq_store.specs.declared.store.StoreFault.TheVariants.{Overflow, Pivots, NoMemory}
use Rattle.cq_machine.specs.declared.machine.Machine.{Machine}
use Rattle.cq_machine.specs.declared.step.Step.{Step}
use Rattle.cq_machine.specs.declared.step.Step.TheVariants as step
use Rattle.cq_machine.specs.Machines.{IsSound, StillStands}
use Rattle.cq_machine.specs.Stepping.{IsSelectedAt}
use Rattle.cq_execute.specs.declared.small.Went.{Went}
use Rattle.cq_execute.specs.declared.small.Went.TheVariants.{Goes, Back, Refused, Row}
use Rattle.cq_execute.specs.Executions.{Continues, KeepsWalks, HasSameDatabase}
use Rattle.cq_execute.specs.Rows.{IsCallOf}
use Rattle.cq_execute.specs.Stops.{IsStop}
use Rattle.cq_predicates.specs.declared.table.builtins.Builtin.{Builtin}
use Rattle.cq_predicates.specs.declared.table.builtins.Builtin.TheVariants as table
use Rattle.cq_predicates.specs.declared.table.builtins.Common.{Common}

-- what a step without output came to
abbrev pub as_went : Step → Went
as_went (step.Goes k) = Goes k
as_went step.Back = Back
as_went (step.Raises e) = Refused
as_went (step.Throws id) = Refused
as_went (step.Refuses pair) = Refused

-- the same, or want of memory
abbrev pub IsSmall : Result Step StoreFault → Result Went AllocError → Type 0
IsSmall (Ok s) (Ok w) = w ≡ as_went s
IsSmall (Ok s) (Err e) = ⊥
IsSmall (Err (Overflow pair)) (Ok w) = w ≡ Refused
IsSmall (Err (Overflow pair)) (Err e) = ⊥
IsSmall (Err (Pivots n)) (Ok w) = w ≡ Refused
IsSmall (Err (Pivots n)) (Err e) = ⊥
IsSmall (Err NoMemory) (Ok w) = ⊥
IsSmall (Err NoMemory) (Err e) = ⊤

-- The goal's step is the ball of an error or of a term, or its reply two numbers that are refused, or a stop of the query is due, by a
-- budget of so many exchanges.
pub data IsRefused (budget : ℕ) (p : Place) (goal : Tree) : Type 0 where
  ball : {c : Copied} → Steps p goal (Ball c) → IsRefused budget p goal
  refuses : {pair : Pair} → reply_of p goal ≡ reply.Overflows pair → IsRefused budget p goal
  overflow : {pair : Pair} → IsStop budget p goal (Overflow pair) → IsRefused budget p goal
  pivots : {n : ℕ} → IsStop budget p goal (Pivots n) → IsRefused budget p goal

-- the built-in predicate is none of those that most goals call
abbrev pub IsOther : Builtin → Type 0
IsOther b = (c : Common) → b ≡ table.Common c → ⊥

-- the machine has come to what the goal's step makes, which shows nothing; or the goal is refused for a cause, or calls another predicate
abbrev pub ReachesSmall : ℕ → Machine → Place → List Branch → Tree → Went → Type 0
ReachesSmall budget m p behind goal (Goes k) = Continues m (Some k) [] p behind goal
ReachesSmall budget m p behind goal Back = Continues m None [] p behind goal
ReachesSmall budget m p behind goal Refused = IsRefused budget p goal
ReachesSmall budget m p behind goal (Row b) = IsOther b

-- what it goes on with is there
abbrev pub CanGoOn : Machine → Went → Type 0
CanGoOn m (Goes k) = k < length m.world.second.now
CanGoOn m Back = ⊤
CanGoOn m Refused = ⊤
CanGoOn m (Row b) = ⊤

-- it stands for what it stood for, with the same program
pub record IsUnmoved (old new : Machine) : Type 0 where
  pub stands : StillStands old new
  pub database : HasSameDatabase old new

-- where a goal was refused nothing has changed for a search, and where it calls a predicate with another row nothing at all
abbrev pub LeavesAlone : Machine → Machine → ℕ → Went → Type 0
LeavesAlone old new id (Goes k) = ⊤
LeavesAlone old new id Back = ⊤
LeavesAlone old new id Refused = IsUnmoved old new
LeavesAlone old new id (Row b) = (new ≡ old) × IsCallOf old id b

-- the goal was executed with this result
pub record IsSmallDone (old new : Machine) (id height rest : ℕ) (r : Result Went AllocError) : Type 0 where
  pub row : IfOk r (λ w. (p : Place) (behind : List Branch) (goal : Tree) → IsSelectedAt old id height rest p behind goal
      → ReachesSmall old.world.first.store.pivots new p behind goal w)
  pub goes : IfOk r (CanGoOn new)
  pub alone : IfOk r (LeavesAlone old new id)
  pub sound : IsSound new
  pub program : KeepsWalks old new
  pub err : OnErr r (IsUnmoved old new)
