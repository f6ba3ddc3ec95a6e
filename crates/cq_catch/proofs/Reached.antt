-- What an engine comes to over the program of which a clause may be removed.
use Rattle.std.proofs.Common.{◌≡◌, ℕ, List, Bool, Option, None, sym, ◌∙◌, subst}
use Rattle.spec_numbers.specs.Texts.{Text}
use Rattle.spec_search.specs.Database.{Database}
use Rattle.spec_search.specs.Search.{Search}
use Rattle.cq_control.specs.Items.{ContinuationsValue}
use Rattle.cq_control.specs.Open.{open_choices}
use Rattle.cq_store.specs.declared.store.StoreFault.{StoreFault}
use Rattle.cq_store.specs.declared.store.StoreFault.TheVariants.{Overflow, Pivots, NoMemory}
use Rattle.cq_resolve.specs.Database.{Program}
use Rattle.cq_catch.specs.Revised.{KeepsShowing}
use Rattle.cq_settle.specs.Contents.{Contents}
use Rattle.cq_settle.specs.declared.world.World.{World}
use Rattle.spec_engine.specs.declared.machine.cell.Cell.{Cell}
use Rattle.spec_engine.specs.Cells.{Stack, Value}
use Rattle.spec_engine.specs.Coming.{Comes}
use Rattle.spec_engine.specs.Standing.{engine}
use Rattle.cq_branch.specs.Choices.{AreOpen}
use Rattle.cq_branch.specs.Worlds.{IsBranch, term_in, Arrives, stack}
use Rattle.cq_branch.specs.declared.alternatives.Alternatives.{Alternatives}
use Rattle.cq_branch.proofs.Arrived.{comes_on}
use Rattle.cq_branch.specs.Stops as begin
use Rattle.cq_branch.specs.Stops.{ComesOn}
use Rattle.cq_catch.specs.Matching.{FaultStops, ComparesTo}
use Rattle.cq_catch.specs.declared.matching.matching.Matched.{Matched}
use Rattle.cq_catch.proofs.Outlasting.{stack_still, open_still}

module _ (texts : List Text) (v w : Program) (shows : KeepsShowing v w) (saved : List (Value Contents)) (choices : List Alternatives) (opened : AreOpen texts v saved choices) where
  pub same_stack : stack texts w saved choices ≡ stack texts v saved choices
  same_stack = stack_still texts v w shows (open_choices saved choices) opened

  pub opened_over : AreOpen texts w saved choices
  opened_over = open_still texts v w shows (open_choices saved choices) opened

  pub arrives_over : (steps : ℕ) (db changed : Database) (n : ℕ) (now : Value Contents) (current : Option ℕ) (s : Search) → changed ≡ db
      → Arrives steps texts v db n saved choices now current s → Arrives steps texts w changed n saved choices now current s
  arrives_over steps db changed n now current s e a =
      subst (λ (st : Stack Contents). Comes (IsBranch texts) (term_in texts) steps (engine changed n st now current) s) (sym same_stack)
      (subst (λ (d : Database). Comes (IsBranch texts) (term_in texts) steps (engine d n (stack texts v saved choices) now current) s) (sym e) a)

-- a stop, with the database that the search has
pub stop_with : (pivots : ℕ) (fault : StoreFault) (db : Database) (s : Search) → s.database ≡ db → begin.FaultStops pivots fault s → FaultStops pivots fault db s
stop_with pivots (Overflow pair) db s d f = λ budgets b. let x = f budgets b in (x.0, x.1, x.2 ∙ d)
stop_with pivots (Pivots n) db s d f = λ budgets b. let x = f budgets b in (x.0, x.1, x.2 ∙ d)
stop_with pivots NoMemory db s d f = tt

-- ---- one clause after another

module _ (texts : List Text) (v : Program) (removes : Bool) (old new : World) (lists more : ContinuationsValue Cell) (before after : List Alternatives)
    (f : ComesOn texts v old lists before new more after None) where
  pub compares_then : (end : World) (last : ContinuationsValue Cell) (left : List Alternatives) (m : Option Matched) → ComparesTo texts v removes new more after end last left m
      → ComparesTo texts v removes old lists before end last left m
  compares_then end last left m g steps db n s j = comes_on (IsBranch texts) (term_in texts) steps _ _ s (f steps db n s j) (λ t k. g steps db n t k)
