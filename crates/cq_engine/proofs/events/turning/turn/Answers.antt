use Rattle.std.proofs.Common.{◌≡◌, ℕ, arith, [], Option, None, Some, refl, ◌∙◌, subst}
use Rattle.spec_search.specs.Search.{Search}
use Rattle.spec_search.specs.Turns.{with_branches}
use Rattle.spec_transcript.specs.Causes.{Budgets}
use Rattle.cq_machine.specs.declared.machine.Machine.{Machine}
use Rattle.cq_engine.specs.Fronts.{IsFrontOf, IsAhead}
use Rattle.cq_engine.specs.Seeking.{KeepsNames, IsKept, StandsFor}
use Rattle.cq_engine.specs.declared.front.Front.{Front}
use Rattle.cq_engine.specs.declared.front.Front.TheVariants as front
use Rattle.cq_engine.proofs.Told.{told_then}
use Rattle.cq_engine.specs.declared.events.engine.Engine.{Engine}
use Rattle.cq_engine.specs.Events.{Stands, IsRunning, Keeps, GoesOn}
use Rattle.cq_engine.proofs.Turned.{goes_both, turned_both}
use Rattle.cq_engine.proofs.events.turning.turn.Goals as goal

-- ---- what was looked at

-- budgets of the engine
abbrev its : Engine → Budgets
its e = record { steps = e.steps; pivots = e.machine.world.first.store.pivots; answers = 0; rows = 0 }

abbrev Looked : Engine → Machine → Front → Type 0
Looked e m f = (budgets : Budgets) → budgets.steps ≡ e.steps → budgets.pivots ≡ e.machine.world.first.store.pivots → (s : Search) → Stands e s → IsFrontOf budgets m e.selected f s

looked : (e : Engine) (m : Machine) (f g : Front) → f ≡ g → Looked e m f → Looked e m g
looked e m f g is l = subst (Looked e m) is l

keeps : (e : Engine) (m : Machine) (k : Option ℕ) → KeepsNames e.machine m → m.world.first.store.pivots ≡ e.machine.world.first.store.pivots → Keeps e (record e { machine = m; current = k })
keeps e m k g pivots = record { atoms = g.atoms; steps = refl; pivots = pivots }

runs_then : (e : Engine) (m : Machine) (current : Option ℕ) (s : Search) → IsKept m → StandsFor m e.selected current s → IsRunning e
    → IsRunning (record e { machine = m; current = current })
runs_then e m current s kept j r = record { kept = kept; search = s; stands = j; within = r.within }

-- ---- an event

pub returns-in-Answer-clause-turned : goal.returns-in-Answer-clause-turned
returns-in-Answer-clause-turned c = (
  λ budgets h s j.
      let a = looked c.args.e.now c.ahead.new.m c.in-Ok.front front.Answer c.in-Answer.is c.in-Ok.ensures.front budgets h.steps h.pivots s j in
      record {
        state = a.state;
        is_state = a.is_state;
        tells = record { next = a.next; tells = a.tells; stands = a.stands };
      },
  omega arith,
)

pub returns-in-Answer-clause-running : goal.returns-in-Answer-clause-running
returns-in-Answer-clause-running c =
    let e = c.args.e.now in
    let a = looked e c.ahead.new.m c.in-Ok.front front.Answer c.in-Answer.is c.in-Ok.ensures.front (its e) refl refl c.requires.running.search c.requires.running.stands in
    runs_then e c.ahead.new.m None a.next c.ahead.ensures.kept a.stands c.requires.running

pub returns-in-Answer-clause-keeps : goal.returns-in-Answer-clause-keeps
returns-in-Answer-clause-keeps c = keeps c.args.e.now c.ahead.new.m None c.ahead.ensures.program c.ahead.ensures.budget

pub returns-in-Fail-clause-turned : goal.returns-in-Fail-clause-turned
returns-in-Fail-clause-turned c = (
  λ budgets h s j.
      let a = looked c.args.e.now c.ahead.new.m c.in-Ok.front front.Fail c.in-Fail.is c.in-Ok.ensures.front budgets h.steps h.pivots s j in
      record { next = a.next; tells = a.tells; stands = a.stands },
  omega arith,
)

pub returns-in-Fail-clause-running : goal.returns-in-Fail-clause-running
returns-in-Fail-clause-running c =
    let e = c.args.e.now in
    let a = looked e c.ahead.new.m c.in-Ok.front front.Fail c.in-Fail.is c.in-Ok.ensures.front (its e) refl refl c.requires.running.search c.requires.running.stands in
    runs_then e c.ahead.new.m None a.next c.ahead.ensures.kept a.stands c.requires.running

pub returns-in-Fail-clause-keeps : goal.returns-in-Fail-clause-keeps
returns-in-Fail-clause-keeps c = keeps c.args.e.now c.ahead.new.m None c.ahead.ensures.program c.ahead.ensures.budget

pub returns-in-Stop-clause-turned : goal.returns-in-Stop-clause-turned
returns-in-Stop-clause-turned c = (
  λ budgets h s j.
      let a = looked c.args.e.now c.ahead.new.m c.in-Ok.front (front.Stop c.in-Stop.cause) c.in-Stop.is c.in-Ok.ensures.front budgets h.steps h.pivots s j in
      record { last = a.last; tells = told_then a.quiet a.tells; database = a.database ∙ a.stands.database; reached = a.reached; quiet = a.quiet; stands = a.stands },
  omega arith,
)

pub returns-in-Stop-clause-running : goal.returns-in-Stop-clause-running
returns-in-Stop-clause-running c =
    let e = c.args.e.now in
    let a = looked e c.ahead.new.m c.in-Ok.front (front.Stop c.in-Stop.cause) c.in-Stop.is c.in-Ok.ensures.front (its e) refl refl c.requires.running.search c.requires.running.stands in
    runs_then e c.ahead.new.m None (with_branches [] a.reached) c.ahead.ensures.kept a.stands c.requires.running

pub returns-in-Stop-clause-keeps : goal.returns-in-Stop-clause-keeps
returns-in-Stop-clause-keeps c = keeps c.args.e.now c.ahead.new.m None c.ahead.ensures.program c.ahead.ensures.budget

pub returns-in-Escapes-clause-turned : goal.returns-in-Escapes-clause-turned
returns-in-Escapes-clause-turned c = (
  λ budgets h s j.
      let e = c.args.e.now in
      let a = looked e c.ahead.new.m c.in-Ok.front (front.Escapes c.in-Escapes.ball) c.in-Escapes.is c.in-Ok.ensures.front budgets h.steps h.pivots s j in
      record {
        counted = subst (IsAhead e.steps e.selected c.ahead.new.m) c.in-Escapes.is c.in-Ok.ensures.ahead;
        ball = a.ball;
        is_stored = a.is_stored;
        tells = record { next = a.next; tells = a.tells; stands = a.stands };
      },
  omega arith,
)

pub returns-in-Escapes-clause-running : goal.returns-in-Escapes-clause-running
returns-in-Escapes-clause-running c =
    let e = c.args.e.now in
    let a = looked e c.ahead.new.m c.in-Ok.front (front.Escapes c.in-Escapes.ball) c.in-Escapes.is c.in-Ok.ensures.front (its e) refl refl c.requires.running.search c.requires.running.stands in
    runs_then e c.ahead.new.m None a.next c.ahead.ensures.kept a.stands c.requires.running

pub returns-in-Escapes-clause-keeps : goal.returns-in-Escapes-clause-keeps
returns-in-Escapes-clause-keeps c = keeps c.args.e.now c.ahead.new.m None c.ahead.ensures.program c.ahead.ensures.budget

-- ---- a goal in front

came : (e : Engine) (m : Machine) (f : Front) (k : ℕ) → f ≡ front.Ahead k → Looked e m f → GoesOn e (record e { machine = m; current = Some k })
came e m f k is l = λ s j. looked e m f (front.Ahead k) is l (its e) refl refl s j

pub select-requires-clause-running : goal.select-requires-clause-running
select-requires-clause-running c =
    let e = c.args.e.now in
    let a = came e c.ahead.new.m c.in-Ok.front c.in-Ahead.k c.in-Ahead.is c.in-Ok.ensures.front c.requires.running.search c.requires.running.stands in
    runs_then e c.ahead.new.m (Some c.in-Ahead.k) a.reached c.ahead.ensures.kept a.stands c.requires.running

pub select-requires-clause-work : goal.select-requires-clause-work
select-requires-clause-work c = let e = c.args.e.now in subst (IsAhead e.steps e.selected c.ahead.new.m) c.in-Ahead.is c.in-Ok.ensures.ahead

pub select-requires-clause-known : goal.select-requires-clause-known
select-requires-clause-known c = rw c.in-Ahead.is at c.in-Ok.ensures.known

pub returns-in-Ok-select-clause-turned : goal.returns-in-Ok-select-clause-turned
returns-in-Ok-select-clause-turned c =
    let e = c.args.e.now in
    let m = c.ahead.new.m in
    turned_both e (record e { machine = m; current = Some c.in-Ahead.k }) c.select.new.e c.in-Ok-select.told (keeps e m (Some c.in-Ahead.k) c.ahead.ensures.program c.ahead.ensures.budget)
    (came e m c.in-Ok.front c.in-Ahead.k c.in-Ahead.is c.in-Ok.ensures.front) refl c.in-Ok-select.ensures.turned

pub returns-in-Err-select-clause-err : goal.returns-in-Err-select-clause-err
returns-in-Err-select-clause-err c =
    let e = c.args.e.now in
    let m = c.ahead.new.m in
    goes_both e (record e { machine = m; current = Some c.in-Ahead.k }) c.select.new.e (keeps e m (Some c.in-Ahead.k) c.ahead.ensures.program c.ahead.ensures.budget)
    (came e m c.in-Ok.front c.in-Ahead.k c.in-Ahead.is c.in-Ok.ensures.front) c.in-Err-select.ensures.err

-- ---- want of memory

pub ahead-requires-clause-works : goal.ahead-requires-clause-works
ahead-requires-clause-works c = (c.args.e.now.selected, c.requires.running.search, c.requires.running.stands)

pub returns-in-Err-clause-err : goal.returns-in-Err-clause-err
returns-in-Err-clause-err c = let e = c.args.e.now in λ s j. c.in-Err.ensures.err e.steps e.selected s j

pub returns-in-Err-clause-running : goal.returns-in-Err-clause-running
returns-in-Err-clause-running c =
    let e = c.args.e.now in
    let a = c.in-Err.ensures.err e.steps e.selected c.requires.running.search c.requires.running.stands in
    runs_then e c.ahead.new.m c.ahead.new.current a.reached c.ahead.ensures.kept a.stands c.requires.running

pub returns-in-Err-clause-keeps : goal.returns-in-Err-clause-keeps
returns-in-Err-clause-keeps c = keeps c.args.e.now c.ahead.new.m c.ahead.new.current c.ahead.ensures.program c.ahead.ensures.budget
