-- A machine of which the question of a goal has changed nothing, and where a goal is selected on it.
use Rattle.std.specs.Prelude.{◌≡◌, ℕ, List}
use Rattle.spec_branch.specs.Branch.{Branch}
use Rattle.spec_search.specs.Replies.{Place}
use Rattle.cq_branch.specs.Worlds.{Placed}
use Rattle.cq_machine.specs.declared.machine.Machine.{Machine}
use Rattle.cq_machine.specs.Machines.{now, saved, holds, HasSameProgram}

-- it knows the same, has the same to do and to try, and goes back to the same
pub record IsUnchanged (old new : Machine) : Type 0 where
  pub program : HasSameProgram old new
  pub lists : new.world.second ≡ old.world.second
  pub choices : new.choices ≡ old.choices
  pub saved : saved new ≡ saved old
  pub now : now new ≡ now old

-- what holds wherever a goal is selected with this continuation behind it
abbrev pub AtPlaces : Machine → ℕ → (Place → List Branch → Type 0) → Type 0
AtPlaces m rest P = (p : Place) (behind : List Branch) → Placed m.atoms (holds m) (now m) rest p behind → P p behind

-- one is selected somewhere
abbrev pub IsPlacedSomewhere : Machine → ℕ → Type 0
IsPlacedSomewhere m rest = (p : Place) × (behind : List Branch) × Placed m.atoms (holds m) (now m) rest p behind
