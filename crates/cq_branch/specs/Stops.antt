-- How a search goes on from where its engine comes back to a choice, and for which faults its query stops.
use Rattle.std.specs.Prelude.{◌≡◌, ℕ, ◌+◌, List, length, Option, None, ⊤}
use Rattle.spec_numbers.specs.Texts.{Text}
use Rattle.spec_search.specs.Database.{Database}
use Rattle.spec_search.specs.Search.{Search}
use Rattle.spec_transcript.specs.Causes.{Budgets, Cause}
use Rattle.spec_transcript.specs.Causes as cause
use Rattle.spec_engine.specs.declared.machine.cell.Cell.{Cell}
use Rattle.spec_engine.specs.Cells.{Stack, size}
use Rattle.spec_engine.specs.Coming.{Tells, Stops}
use Rattle.cq_control.specs.Heights.{total}
use Rattle.cq_control.specs.Items.{ContinuationsValue}
use Rattle.cq_store.specs.declared.store.StoreFault.{StoreFault}
use Rattle.cq_store.specs.declared.store.StoreFault.TheVariants.{Overflow, Pivots, NoMemory}
use Rattle.cq_resolve.specs.Database.{Program}
use Rattle.cq_settle.specs.Contents.{Contents}
use Rattle.cq_settle.specs.declared.world.World.{World}
use Rattle.cq_branch.specs.declared.alternatives.Alternatives.{Alternatives}
use Rattle.cq_branch.specs.Worlds.{value, saved_values, stack, Stands, Arrives}

-- ---- stops

-- the search comes quietly to where the query stops for the cause, with the database that it has
abbrev pub ComesToStop : Budgets → Cause → Search → Type 0
ComesToStop budgets cause s = (t : Search) × Tells budgets s (Stops cause) t × (t.database ≡ s.database)

-- The search comes quietly to where the query stops for the fault, where one maximisation may make so many exchanges. Want of
-- memory tells nothing.
abbrev pub FaultStops : ℕ → StoreFault → Search → Type 0
FaultStops pivots (Overflow pair) s = (budgets : Budgets) → budgets.pivots ≡ pivots → ComesToStop budgets (cause.Overflow pair) s
FaultStops pivots (Pivots n) s = (budgets : Budgets) → budgets.pivots ≡ pivots → ComesToStop budgets (cause.Pivots n) s
FaultStops pivots NoMemory s = ⊤

-- ---- an engine that comes back to its newest choice, over a world and continuations

-- it stands for some search
abbrev pub IsBack : List Text → Program → World → ContinuationsValue Cell → List Alternatives → Type 0
IsBack texts v w lists choices = (db : Database) × (n : ℕ) × (s : Search)
    × Stands texts v db n (saved_values w lists.saved) choices (value w lists.now) None s

-- each search for which it stood comes quietly to one for which the engine stands that goes on with this continuation
abbrev pub ComesOn : List Text → Program → World → ContinuationsValue Cell → List Alternatives
    → World → ContinuationsValue Cell → List Alternatives → Option ℕ → Type 0
ComesOn texts v old lists before new more choices current = (steps : ℕ) (db : Database) (n : ℕ) (s : Search)
    → Stands texts v db n (saved_values old lists.saved) before (value old lists.now) None s
    → Arrives steps texts v db n (saved_values new more.saved) choices (value new more.now) current s

-- each search for which it stood comes quietly to where the query stops for the fault
abbrev pub AllStop : List Text → Program → World → ContinuationsValue Cell → List Alternatives → StoreFault → Type 0
AllStop texts v w lists choices fault = (db : Database) (n : ℕ) (s : Search)
    → Stands texts v db n (saved_values w lists.saved) choices (value w lists.now) None s → FaultStops w.store.pivots fault s

-- how many branches its choices stand for, and how many choices there are, together: this falls as it comes back
abbrev pub waiting_in : Stack Contents → ℕ
waiting_in choices = total size choices + length choices

abbrev pub still_waiting : List Text → Program → World → ContinuationsValue Cell → List Alternatives → ℕ
still_waiting texts v w lists choices = waiting_in (stack texts v (saved_values w lists.saved) choices)
