-- An engine that comes back to its newest choice goes on from there, or its query stops.
use Rattle.std.proofs.Common.{◌≡◌, ℕ, List, Option, None, sym, ap, ◌∙◌, subst, map}
use Rattle.spec_numbers.specs.Texts.{Text}
use Rattle.spec_search.specs.Search.{Search}
use Rattle.spec_transcript.specs.Causes.{Budgets, Cause}
use Rattle.spec_transcript.specs.Causes as cause
use Rattle.cq_control.specs.Items.{ContinuationsValue}
use Rattle.cq_control.specs.Open.{open_choices}
use Rattle.cq_store.specs.declared.store.StoreFault.{StoreFault}
use Rattle.cq_store.specs.declared.store.StoreFault.TheVariants.{Overflow, Pivots, NoMemory}
use Rattle.cq_resolve.specs.Database.{Program}
use Rattle.cq_settle.specs.declared.world.World.{World}
use Rattle.spec_engine.specs.declared.machine.cell.Cell.{Cell}
use Rattle.spec_engine.specs.Coming.{Quietly, Told, Tells, shows, Comes}
use Rattle.spec_engine.specs.Coming as coming
use Rattle.spec_engine.specs.Standing.{engine, IsStanding}
use Rattle.cq_branch.specs.declared.alternatives.Alternatives.{Alternatives}
use Rattle.cq_branch.specs.Worlds.{IsBranch, term_in, value, saved_values, left_at}
use Rattle.cq_branch.proofs.Arrived.{quietly_on, comes_on, comes_at_once}
use Rattle.cq_branch.specs.Stops.{ComesToStop, FaultStops, IsBack, ComesOn, AllStop}

-- ---- stops behind quiet turns

pub told_after : {budgets : Budgets} {s r t : Search} {told : Told} → Quietly budgets.steps s r → Tells budgets r told t → Tells budgets s told t
told_after q (shows p may turn new) = shows (quietly_on q p) may turn new
told_after q (coming.stops p why) = coming.stops (quietly_on q p) why

stop_after : (budgets : Budgets) (cause : Cause) (s r : Search) → Quietly budgets.steps s r → r.database ≡ s.database → ComesToStop budgets cause r → ComesToStop budgets cause s
stop_after budgets cause s r q d h = (h.0, told_after q h.1, h.2 ∙ d)

pub fault_after : (old new : ℕ) (fault : StoreFault) (s : Search) → new ≡ old
    → ((steps : ℕ) → (r : Search) × Quietly steps s r × (r.database ≡ s.database) × FaultStops new fault r) → FaultStops old fault s
fault_after old new (Overflow pair) s e f = λ budgets b. let a = f budgets.steps in stop_after budgets (cause.Overflow pair) s a.0 a.1 a.2 (a.3 budgets (b ∙ sym e))
fault_after old new (Pivots n) s e f = λ budgets b. let a = f budgets.steps in stop_after budgets (cause.Pivots n) s a.0 a.1 a.2 (a.3 budgets (b ∙ sym e))
fault_after old new NoMemory s e f = tt

-- ---- the engine

module _ (texts : List Text) (v : Program) where
  module _ (old new : World) (lists more : ContinuationsValue Cell) (before after : List Alternatives) where
    -- with the same choices it stands for the same searches, whatever the world is now
    pub back_still : open_choices (saved_values new more.saved) after ≡ open_choices (saved_values old lists.saved) before → ComesOn texts v old lists before new more after None
    back_still e steps db n s j =
        comes_at_once (IsBranch texts) (term_in texts) steps _ s
        (subst (λ st. IsStanding (IsBranch texts) (term_in texts) (engine db n st (value new more.now) None) s) (sym (ap (map (left_at texts v)) e))
        (record { database = j.database; selected = j.selected; first = j.first; behind = j.behind; branches = j.branches; current = j.current; waiting = j.waiting }))

    pub still_back : IsBack texts v old lists before → ComesOn texts v old lists before new more after None → IsBack texts v new more after
    still_back w f = let a = f 0 w.0 w.1 w.2 w.3 in (w.0, w.1, a.reached, a.stands)

    module _ (f : ComesOn texts v old lists before new more after None) where
      pub comes_then : (end : World) (last : ContinuationsValue Cell) (left : List Alternatives) (current : Option ℕ)
          → ComesOn texts v new more after end last left current → ComesOn texts v old lists before end last left current
      comes_then end last left current g steps db n s j =
          comes_on (IsBranch texts) (term_in texts) steps _ _ s (f steps db n s j) (λ t k. g steps db n t k)

      pub stops_then : (fault : StoreFault) → new.store.pivots ≡ old.store.pivots → AllStop texts v new more after fault → AllStop texts v old lists before fault
      stops_then fault e g db n s j =
          fault_after old.store.pivots new.store.pivots fault s e (λ steps. let a = f steps db n s j in (a.reached, a.quiet, a.stands.database ∙ sym j.database, g db n a.reached a.stands))
