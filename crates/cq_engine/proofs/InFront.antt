-- An engine on which nothing was selected yet, and the goal in front of it.
use Rattle.std.proofs.Common.{◌≡◌, ℕ, Option, Some, subst}
use Rattle.spec_branch.specs.Branch.{read}
use Rattle.spec_search.specs.Search.{Search}
use Rattle.spec_search.specs.Turns.{place_of}
use Rattle.cq_machine.specs.declared.machine.Machine.{Machine}
use Rattle.cq_machine.specs.Machines.{IsSound, database_of, StillStands}
use Rattle.cq_machine.specs.Stepping.{IsSelectedAt}
use Rattle.cq_engine.specs.Seeking.{StandsFor}
use Rattle.cq_engine.proofs.Engines.{kept_where, names_known, sound_where}
use Rattle.cq_engine.specs.declared.events.engine.Engine.{Engine}
use Rattle.cq_engine.specs.Events.{Stands, IsRunning, GoesOn}
use Rattle.cq_engine.specs.Turning.{HasGoalInFront, SelectsNext}
use Rattle.cq_engine.proofs.Selections.{goal_next, stands_still}
use Rattle.cq_engine.proofs.Turned.{goes_at_once}

module _ (e : Engine) (k : ℕ) (at : e.current ≡ Some k) where
  pub at_k : (s : Search) → Stands e s → StandsFor e.machine e.selected (Some k) s
  at_k s j = subst (λ (o : Option ℕ). StandsFor e.machine e.selected o s) at j

  pub is_sound : IsRunning e → IsSound e.machine
  is_sound run = sound_where e.machine run.kept (names_known e.machine k (e.selected, run.search, at_k run.search run.stands))

-- the goal in front is the one that the search selects next
module _ (e : Engine) (id height rest : ℕ) (front : HasGoalInFront e id height rest) where
  pub selects : (s : Search) → Stands e s
      → (x : SelectsNext e.machine e.selected rest s) × IsSelectedAt e.machine id height rest (place_of s x.state x.items x.cut x.behind) x.behind (read x.state x.goal)
  selects s j = goal_next e.machine e.selected front.k rest s (at_k e front.k front.current s j) front.front.earlier id height front.front.cells

-- a machine that stands for the same takes its place
module _ (e : Engine) (m : Machine) (still : StillStands e.machine m) (same : database_of m ≡ database_of e.machine) where
  stands_on : (s : Search) → Stands e s → Stands (record e { machine = m }) s
  stands_on s j = stands_still e.machine m e.selected e.current s still same j

  pub goes_still : GoesOn e (record e { machine = m })
  goes_still = goes_at_once e (record e { machine = m }) stands_on

  pub runs_still : IsSound m → IsRunning e → IsRunning (record e { machine = m })
  runs_still sound run = record { kept = kept_where m sound; search = run.search; stands = stands_on run.search run.stands; within = run.within }
