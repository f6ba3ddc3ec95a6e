use Rattle.std.proofs.Common.{◌≡◌, ◌∷◌, ◌<◌, ℕ, arith, List, [], Option, None, Some, refl, sym, ap, subst, ◌∙◌}
use Rattle.spec_numbers.specs.Texts.{Text}
use Rattle.spec_syntax.specs.Trees.{Tree}
use Rattle.spec_builtins.specs.Built.{Indicator}
use Rattle.spec_builtins.specs.Errors.{error_ball}
use Rattle.spec_branch.specs.Branch.{plain_copy, read}
use Rattle.spec_search.specs.Steps.{Steps, Ball}
use Rattle.cq_built.specs.Errors.{error_tree}
use Rattle.cq_term.specs.Trees.{tree}
use Rattle.spec_search.specs.Search.{Search}
use Rattle.spec_search.specs.Turns.{place_of, with_branches}
use Rattle.spec_transcript.specs.Causes as why
use Rattle.cq_built.specs.declared.errors.BuiltinError.{BuiltinError}
use Rattle.cq_control.specs.Items.{items_at}
use Rattle.cq_store.specs.declared.store.StoreFault.{StoreFault}
use Rattle.cq_store.specs.declared.store.StoreFault.TheVariants as fault
use Rattle.spec_engine.specs.declared.machine.cell.Cell.{Cell}
use Rattle.cq_machine.specs.declared.machine.Machine.{Machine}
use Rattle.cq_machine.specs.declared.step.Step.{Step}
use Rattle.cq_machine.specs.declared.step.Step.TheVariants as step
use Rattle.cq_machine.specs.Machines.{terms, database_of, StillStands}
use Rattle.cq_machine.proofs.Built.{stands_then}
use Rattle.cq_machine.specs.Stepping.{CanGo, OnRaises}
use Rattle.cq_engine.specs.Fronts.{HasWork, IsGoal}
use Rattle.cq_engine.specs.Seeking.{StandsFor}
use Rattle.cq_execute.specs.Executions.{Reaches}
use Rattle.cq_execute.specs.declared.executed.Executed.{Executed}
use Rattle.cq_engine.specs.declared.events.engine.Engine.{Engine}
use Rattle.cq_engine.specs.Raised.{ball_by}
use Rattle.cq_engine.specs.Events.{Stands, IsRunning}
use Rattle.cq_engine.specs.declared.events.raiser.Raiser.{Raiser}
use Rattle.cq_engine.specs.Turning.{SelectsNext, ComesUpOn, NamesNext, Reached, MayStop}
use Rattle.cq_engine.proofs.Selections.{goal_in_front, stands_still, up_still}
use Rattle.cq_engine.proofs.Steps.{tells_refused}
use Rattle.cq_engine.proofs.Ended.{advanced, runs_on, stopped, runs_stopped, stands_same}
use Rattle.cq_engine.proofs.Stops.{stops_for_overflow, stops_for_pivots}
use Rattle.cq_engine.proofs.Thrown.{BallNext, thrown, runs_thrown}
use Rattle.cq_engine.proofs.Turned.{keeps_at, keeps_gained, goes_at_once}
use Rattle.cq_engine.proofs.events.turning.select.Goals as goal

-- ---- the goal in front

abbrev at_k : (e : Engine) (k : ℕ) (s : Search) → e.current ≡ Some k → Stands e s → StandsFor e.machine e.selected (Some k) s
at_k e k s c j = subst (λ (o : Option ℕ). StandsFor e.machine e.selected o s) c j

abbrev head_or : Cell → List Cell → Cell
head_or c [] = c
head_or c (x ∷ xs) = x

goal_here : (e : Engine) (k rest : ℕ) (c : Cell) (w : HasWork e.steps e.selected e.machine k)
    → items_at e.machine.world.second.now k ≡ c ∷ items_at e.machine.world.second.now rest → IsGoal c
goal_here e k rest c w cells = let same : w.cell ≡ c = ap (head_or c) (sym w.cells ∙ cells) in subst IsGoal same w.goal

-- what was reached, by the step
abbrev ReachedBy : Machine → Machine → ℕ → ℕ → Step → Text → Search → Type 0
ReachedBy old m n rest st text s = (x : SelectsNext old n rest s) × Reaches m st text (place_of s x.state x.items x.cut x.behind) x.behind (read x.state x.goal)

reached_by : (old m : Machine) (n rest : ℕ) (d : Executed) (st : Step) (s : Search) → d.step ≡ st → Reached old m n rest d s → ReachedBy old m n rest st d.output.items s
reached_by old m n rest d st s e r = (
  r.next,
  subst (λ (t : Step). Reaches m t d.output.items (place_of s r.next.state r.next.items r.next.cut r.next.behind) r.next.behind (read r.next.state r.next.goal)) e r.reaches,
)

-- ---- what is in front

pub first-requires : goal.first-requires
first-requires c = let r = c.requires.running in (at_k c.args.e.now c.args.k r.search c.requires.current r.stands).current.3.there

pub execute_cell-requires-clause-sound : goal.execute_cell-requires-clause-sound
execute_cell-requires-clause-sound c = c.requires.work.sound

pub execute_cell-requires-clause-going : goal.execute_cell-requires-clause-going
execute_cell-requires-clause-going c =
    let e = c.args.e.now in
    let r = c.requires.running in
    (e.selected, r.search, at_k e c.args.k r.search c.requires.current r.stands)

pub execute_cell-requires-clause-front : goal.execute_cell-requires-clause-front
execute_cell-requires-clause-front c = record { earlier = c.in-Some.ensures.earlier; cells = c.in-Some.ensures.some }

pub execute_cell-requires-clause-goal : goal.execute_cell-requires-clause-goal
execute_cell-requires-clause-goal c =
    goal_here c.args.e.now c.args.k c.in-Some.rest c.in-Some.cell c.requires.work c.in-Some.ensures.some

-- ---- it goes on

pub returns-in-Goes-clause-turned : goal.returns-in-Goes-clause-turned
returns-in-Goes-clause-turned c =
    let e = c.args.e.now in
    let m = c.execute_cell.new.m in
    let k = c.args.k in
    let rest = c.in-Some.rest in
    let d = c.in-Ok.executed in
    advanced e (record e { machine = m }) c.advance.new.e rest (Some c.in-Goes.next) d.output.items refl c.advance.ensures.at
    c.requires.work.few
    (λ s j. reached_by e.machine m e.selected rest d (step.Goes c.in-Goes.next) s c.in-Goes.is (c.in-Ok.ensures.row e.selected s (at_k e k s c.requires.current j)))
    c.advance.result c.advance.ensures.told

pub returns-in-Goes-clause-running : goal.returns-in-Goes-clause-running
returns-in-Goes-clause-running c =
    let e = c.args.e.now in
    let m = c.execute_cell.new.m in
    let k = c.args.k in
    let rest = c.in-Some.rest in
    let d = c.in-Ok.executed in
    runs_on e (record e { machine = m }) c.advance.new.e rest (Some c.in-Goes.next) d.output.items refl c.advance.ensures.at
    c.requires.work.few
    (λ s j. reached_by e.machine m e.selected rest d (step.Goes c.in-Goes.next) s c.in-Goes.is (c.in-Ok.ensures.row e.selected s (at_k e k s c.requires.current j)))
    c.requires.running c.execute_cell.ensures.sound refl

pub returns-in-Goes-clause-keeps : goal.returns-in-Goes-clause-keeps
returns-in-Goes-clause-keeps c =
    let at = c.advance.ensures.at in
    keeps_at c.args.e.now c.advance.new.e c.execute_cell.new.m c.execute_cell.ensures.program at.machine at.steps

pub returns-in-Back-clause-turned : goal.returns-in-Back-clause-turned
returns-in-Back-clause-turned c =
    let e = c.args.e.now in
    let m = c.execute_cell.new.m in
    let k = c.args.k in
    let rest = c.in-Some.rest in
    let d = c.in-Ok.executed in
    advanced e (record e { machine = m }) c.advance-in-Back.new.e rest None d.output.items refl c.advance-in-Back.ensures.at
    c.requires.work.few
    (λ s j. reached_by e.machine m e.selected rest d step.Back s c.in-Back.is (c.in-Ok.ensures.row e.selected s (at_k e k s c.requires.current j)))
    c.advance-in-Back.result c.advance-in-Back.ensures.told

pub returns-in-Back-clause-running : goal.returns-in-Back-clause-running
returns-in-Back-clause-running c =
    let e = c.args.e.now in
    let m = c.execute_cell.new.m in
    let k = c.args.k in
    let rest = c.in-Some.rest in
    let d = c.in-Ok.executed in
    runs_on e (record e { machine = m }) c.advance-in-Back.new.e rest None d.output.items refl c.advance-in-Back.ensures.at
    c.requires.work.few
    (λ s j. reached_by e.machine m e.selected rest d step.Back s c.in-Back.is (c.in-Ok.ensures.row e.selected s (at_k e k s c.requires.current j)))
    c.requires.running c.execute_cell.ensures.sound refl

pub returns-in-Back-clause-keeps : goal.returns-in-Back-clause-keeps
returns-in-Back-clause-keeps c =
    let at = c.advance-in-Back.ensures.at in
    keeps_at c.args.e.now c.advance-in-Back.new.e c.execute_cell.new.m c.execute_cell.ensures.program at.machine at.steps

-- ---- balls

-- the machine and what was reached there
module _ (e : Engine) (m : Machine) (k rest : ℕ) (d : Executed) (at : e.current ≡ Some k)
    (row : (n : ℕ) (s : Search) → StandsFor e.machine n (Some k) s → Reached e.machine m n rest d s) where
  -- the term that the goal throws
  throws_next : (id : ℕ) → d.step ≡ step.Throws id → (s : Search) → Stands e s
      → BallNext e.machine m e.selected rest (tree m.atoms (terms m) id) s
  throws_next id is s j =
      let x = reached_by e.machine m e.selected rest d (step.Throws id) s is (row e.selected s (at_k e k s at j)) in
      record { next = x.0; step = x.1 }

  module _ (error : BuiltinError) (is : d.step ≡ step.Raises error) (still : StillStands e.machine m) where
    -- the machine stands for the same searches, with the same continuation
    stands_now : (s : Search) → Stands e s → StandsFor m e.selected (Some k) s
    stands_now s j =
        let x = reached_by e.machine m e.selected rest d (step.Raises error) s is (row e.selected s (at_k e k s at j)) in
        stands_still e.machine m e.selected (Some k) s still (sym x.1.database ∙ x.0.database) (at_k e k s at j)

    -- the ball of the error that the goal raises, on a machine that stands for the same
    raises_next : (mid : Machine) (raiser : Raiser) → NamesNext m k raiser → database_of mid ≡ database_of m → (s : Search) → Stands e s
        → BallNext e.machine mid e.selected rest (ball_by m.atoms (terms m) error raiser) s
    raises_next mid raiser names same s j =
        let r = reached_by e.machine m e.selected rest d (step.Raises error) s is (row e.selected s (at_k e k s at j)) in
        let x = r.0 in
        record {
          next = x;
          step = record {
            step = subst (λ (i : Indicator). Steps (place_of s x.state x.items x.cut x.behind) (read x.state x.goal) (Ball (plain_copy (error_ball (error_tree m.atoms (terms m) error) i))))
                (sym (names e.selected s (stands_now s j) x.goal x.cut x.items x.state x.behind x.look)) r.1.step;
            database = r.1.database ∙ sym same;
          };
        }

-- a ball comes up in front of the continuation behind the goal
up_behind : (e : Engine) (m : Machine) (k rest : ℕ) (d : Executed) → IsRunning e → e.current ≡ Some k → StillStands e.machine m
    → ((n : ℕ) (s : Search) → StandsFor e.machine n (Some k) s → Reached e.machine m n rest d s) → ComesUpOn m rest
up_behind e m k rest d run at still row =
    let x = (row e.selected run.search (at_k e k run.search at run.stands)).next in (
      x.items,
      x.state,
      x.behind,
      up_still e.machine m still rest x.items x.state x.behind (record { continuation = x.placed.0.continuation; waiting = x.placed.1 }),
    )

still_by : (e : Engine) (m : Machine) (s t : Step) → s ≡ t → OnRaises s (StillStands e.machine m) → OnRaises t (StillStands e.machine m)
still_by e m s t is h = subst (λ (u : Step). OnRaises u (StillStands e.machine m)) is h

pub raiser_before-raiser-requires-clause-going : goal.raiser_before-raiser-requires-clause-going
raiser_before-raiser-requires-clause-going c =
    let e = c.args.e.now in
    let m = c.execute_cell.new.m in
    let still : StillStands e.machine m = still_by e m c.in-Ok.executed.step (step.Raises c.in-Raises.error) c.in-Raises.is c.in-Ok.ensures.raises in
    let run = c.requires.running in
    (e.selected, run.search, stands_now e m c.args.k c.in-Some.rest c.in-Ok.executed c.requires.current c.in-Ok.ensures.row c.in-Raises.error c.in-Raises.is still run.search run.stands)

pub raiser_before-raiser-requires-clause-goal : goal.raiser_before-raiser-requires-clause-goal
raiser_before-raiser-requires-clause-goal c =
    let e = c.args.e.now in
    let m = c.execute_cell.new.m in
    let k = c.args.k in
    let still : StillStands e.machine m = still_by e m c.in-Ok.executed.step (step.Raises c.in-Raises.error) c.in-Raises.is c.in-Ok.ensures.raises in
    let run = c.requires.running in
    let x = (c.in-Ok.ensures.row e.selected run.search (at_k e k run.search c.requires.current run.stands)).next in
    goal_in_front m e.selected k run.search
    (stands_now e m k c.in-Some.rest c.in-Ok.executed c.requires.current c.in-Ok.ensures.row c.in-Raises.error c.in-Raises.is still run.search run.stands)
    x.goal x.cut x.items x.state x.behind x.look

pub raise-requires-clause-culprit : goal.raise-requires-clause-culprit
raise-requires-clause-culprit c = subst (CanGo c.execute_cell.new.m) c.in-Raises.is c.in-Ok.ensures.goes

pub raise-requires-clause-comes_up : goal.raise-requires-clause-comes_up
raise-requires-clause-comes_up c =
    let e = c.args.e.now in
    let m = c.execute_cell.new.m in
    up_behind e m c.args.k c.in-Some.rest c.in-Ok.executed c.requires.running c.requires.current
    (still_by e m c.in-Ok.executed.step (step.Raises c.in-Raises.error) c.in-Raises.is c.in-Ok.ensures.raises) c.in-Ok.ensures.row

pub raise-requires-clause-few : goal.raise-requires-clause-few
raise-requires-clause-few c = c.requires.work.few

pub returns-in-Ok-raise-clause-turned : goal.returns-in-Ok-raise-clause-turned
returns-in-Ok-raise-clause-turned c =
    let e = c.args.e.now in
    let m = c.execute_cell.new.m in
    let still : StillStands e.machine m = still_by e m c.in-Ok.executed.step (step.Raises c.in-Raises.error) c.in-Raises.is c.in-Ok.ensures.raises in
    let r = c.in-Ok-raise.ensures.thrown in
    thrown e r.mid c.raise.new.e c.in-Some.rest (ball_by m.atoms (terms m) c.in-Raises.error c.raiser_before-raiser.result) r.selected c.requires.work.few
    (stands_then e.machine m r.mid.machine still r.still) (c.raise.ensures.program.database ∙ sym r.database)
    (raises_next e m c.args.k c.in-Some.rest c.in-Ok.executed c.requires.current c.in-Ok.ensures.row c.in-Raises.error c.in-Raises.is still r.mid.machine c.raiser_before-raiser.result
    c.raiser_before-raiser.ensures.names r.database)
    c.in-Ok-raise.told r.thrown

pub returns-in-Ok-raise-clause-running : goal.returns-in-Ok-raise-clause-running
returns-in-Ok-raise-clause-running c =
    let e = c.args.e.now in
    let m = c.execute_cell.new.m in
    let still : StillStands e.machine m = still_by e m c.in-Ok.executed.step (step.Raises c.in-Raises.error) c.in-Raises.is c.in-Ok.ensures.raises in
    let r = c.in-Ok-raise.ensures.thrown in
    runs_thrown e r.mid c.raise.new.e c.in-Some.rest (ball_by m.atoms (terms m) c.in-Raises.error c.raiser_before-raiser.result) r.selected c.requires.work.few
    (stands_then e.machine m r.mid.machine still r.still) (c.raise.ensures.program.database ∙ sym r.database)
    (raises_next e m c.args.k c.in-Some.rest c.in-Ok.executed c.requires.current c.in-Ok.ensures.row c.in-Raises.error c.in-Raises.is still r.mid.machine c.raiser_before-raiser.result
    c.raiser_before-raiser.ensures.names r.database)
    c.requires.running c.raise.ensures.kept c.raise.ensures.steps c.in-Ok-raise.told r.thrown

pub returns-in-Raises-clause-keeps : goal.returns-in-Raises-clause-keeps
returns-in-Raises-clause-keeps c =
    keeps_gained c.args.e.now c.raise.new.e c.execute_cell.new.m c.execute_cell.ensures.program c.raise.ensures.program c.raise.ensures.budget c.raise.ensures.steps

-- the engine still stands where the error's ball could not be built
unthrown : (e new : Engine) (m : Machine) → StillStands e.machine m → StillStands m new.machine → database_of new.machine ≡ database_of e.machine
    → new.selected ≡ e.selected → new.current ≡ e.current → (s : Search) → Stands e s → Stands new s
unthrown e new m still after same selected current s j =
    stands_same new e.selected e.current s selected current
    (stands_still e.machine new.machine e.selected e.current s (stands_then e.machine m new.machine still after) same j)

-- a goal that raises or throws changes no database
same_by : (e : Engine) (m : Machine) (rest : ℕ) (ball : Tree) (run : IsRunning e) → ((s : Search) → Stands e s → BallNext e.machine m e.selected rest ball s)
    → database_of m ≡ database_of e.machine
same_by e m rest ball run f = let x = f run.search run.stands in sym x.step.database ∙ x.next.database

pub returns-in-Raises-clause-err : goal.returns-in-Raises-clause-err
returns-in-Raises-clause-err c =
    let e = c.args.e.now in
    let m = c.execute_cell.new.m in
    let still : StillStands e.machine m = still_by e m c.in-Ok.executed.step (step.Raises c.in-Raises.error) c.in-Raises.is c.in-Ok.ensures.raises in
    let at = c.in-Err.ensures.err_at in
    let same = same_by e m c.in-Some.rest (ball_by m.atoms (terms m) c.in-Raises.error c.raiser_before-raiser.result) c.requires.running
    (raises_next e m c.args.k c.in-Some.rest c.in-Ok.executed c.requires.current c.in-Ok.ensures.row c.in-Raises.error c.in-Raises.is still m c.raiser_before-raiser.result
    c.raiser_before-raiser.ensures.names refl) in
    goes_at_once e c.raise.new.e
    (unthrown e c.raise.new.e m still c.in-Err.ensures.err (c.raise.ensures.program.database ∙ same) at.selected at.current)

pub throw-requires-clause-ball : goal.throw-requires-clause-ball
throw-requires-clause-ball c = subst (CanGo c.execute_cell.new.m) c.in-Throws.is c.in-Ok.ensures.goes

pub throw-requires-clause-comes_up : goal.throw-requires-clause-comes_up
throw-requires-clause-comes_up c =
    let e = c.args.e.now in
    let m = c.execute_cell.new.m in
    up_behind e m c.args.k c.in-Some.rest c.in-Ok.executed c.requires.running c.requires.current
    (still_by e m c.in-Ok.executed.step (step.Throws c.in-Throws.ball) c.in-Throws.is c.in-Ok.ensures.raises) c.in-Ok.ensures.row

pub throw-requires-clause-few : goal.throw-requires-clause-few
throw-requires-clause-few c = c.requires.work.few

pub returns-in-Ok-throw-clause-turned : goal.returns-in-Ok-throw-clause-turned
returns-in-Ok-throw-clause-turned c =
    let e = c.args.e.now in
    let m = c.execute_cell.new.m in
    let still : StillStands e.machine m = still_by e m c.in-Ok.executed.step (step.Throws c.in-Throws.ball) c.in-Throws.is c.in-Ok.ensures.raises in
    thrown e (record e { machine = m }) c.throw.new.e c.in-Some.rest (tree m.atoms (terms m) c.in-Throws.ball) refl c.requires.work.few still c.throw.ensures.program.database
    (throws_next e m c.args.k c.in-Some.rest c.in-Ok.executed c.requires.current c.in-Ok.ensures.row c.in-Throws.ball c.in-Throws.is)
    c.in-Ok-throw.told c.in-Ok-throw.ensures.thrown

pub returns-in-Ok-throw-clause-running : goal.returns-in-Ok-throw-clause-running
returns-in-Ok-throw-clause-running c =
    let e = c.args.e.now in
    let m = c.execute_cell.new.m in
    let still : StillStands e.machine m = still_by e m c.in-Ok.executed.step (step.Throws c.in-Throws.ball) c.in-Throws.is c.in-Ok.ensures.raises in
    runs_thrown e (record e { machine = m }) c.throw.new.e c.in-Some.rest (tree m.atoms (terms m) c.in-Throws.ball) refl c.requires.work.few still c.throw.ensures.program.database
    (throws_next e m c.args.k c.in-Some.rest c.in-Ok.executed c.requires.current c.in-Ok.ensures.row c.in-Throws.ball c.in-Throws.is)
    c.requires.running c.throw.ensures.kept c.throw.ensures.steps c.in-Ok-throw.told c.in-Ok-throw.ensures.thrown

pub returns-in-Throws-clause-keeps : goal.returns-in-Throws-clause-keeps
returns-in-Throws-clause-keeps c =
    keeps_gained c.args.e.now c.throw.new.e c.execute_cell.new.m c.execute_cell.ensures.program c.throw.ensures.program c.throw.ensures.budget c.throw.ensures.steps

pub returns-in-Throws-clause-err : goal.returns-in-Throws-clause-err
returns-in-Throws-clause-err c =
    let e = c.args.e.now in
    let m = c.execute_cell.new.m in
    let still : StillStands e.machine m = still_by e m c.in-Ok.executed.step (step.Throws c.in-Throws.ball) c.in-Throws.is c.in-Ok.ensures.raises in
    let same = same_by e m c.in-Some.rest (tree m.atoms (terms m) c.in-Throws.ball) c.requires.running
    (throws_next e m c.args.k c.in-Some.rest c.in-Ok.executed c.requires.current c.in-Ok.ensures.row c.in-Throws.ball c.in-Throws.is) in
    goes_at_once e c.throw.new.e
    (λ s j. subst (λ (x : Engine). Stands x s) (sym c.in-Err-throw.ensures.err) (stands_still e.machine m e.selected e.current s still same j))

-- ---- stops

pub returns-in-Ok-clause-turned : goal.returns-in-Ok-clause-turned
returns-in-Ok-clause-turned c = (
  λ budgets h s j.
      let e = c.args.e.now in
      let m = c.execute_cell.new.m in
      let k = c.args.k in
      let rest = c.in-Some.rest in
      let x = reached_by e.machine m e.selected rest c.in-Ok.executed (step.Refuses c.in-Refuses.pair) s c.in-Refuses.is
      (c.in-Ok.ensures.row e.selected s (at_k e k s c.requires.current j)) in
      let less = subst (λ (n : ℕ). e.selected < n) (sym h.steps) c.requires.work.few in
      let left = c.leave in
      stopped budgets left.new.e e.selected (why.Overflow c.in-Refuses.pair) s (with_branches [] s) left.ensures.ended (x.1.database ∙ sym left.ensures.program.database) x.0.selected
      (tells_refused e.machine e.selected rest s x.0 budgets less c.in-Refuses.pair x.1.is) refl,
  let same = c.leave.ensures.ended.selected in omega (arith, same),
)

pub returns-in-Ok-clause-running : goal.returns-in-Ok-clause-running
returns-in-Ok-clause-running c =
    let e = c.args.e.now in
    let m = c.execute_cell.new.m in
    let left = c.leave in
    runs_stopped e left.new.e left.ensures.ended c.requires.running left.ensures.steps
    (λ s j. let x = reached_by e.machine m e.selected c.in-Some.rest c.in-Ok.executed (step.Refuses c.in-Refuses.pair) s c.in-Refuses.is
    (c.in-Ok.ensures.row e.selected s (at_k e c.args.k s c.requires.current j)) in
    x.1.database ∙ sym left.ensures.program.database)

stops_so : (e : Engine) (m : Machine) (k rest : ℕ) (f : StoreFault) (g : StoreFault) → f ≡ g → e.current ≡ Some k
    → ((n : ℕ) (s : Search) → StandsFor e.machine n (Some k) s → MayStop e.machine n rest f s) → (s : Search) → Stands e s → MayStop e.machine e.selected rest g s
stops_so e m k rest f g is at stop s j = subst (λ (x : StoreFault). MayStop e.machine e.selected rest x s) is (stop e.selected s (at_k e k s at j))

pub returns-in-Err-Overflow-clause-turned : goal.returns-in-Err-Overflow-clause-turned
returns-in-Err-Overflow-clause-turned c = (
  λ budgets h s j.
      let e = c.args.e.now in
      let m = c.execute_cell.new.m in
      let k = c.args.k in
      let rest = c.in-Some.rest in
      let x = stops_so e m k rest _ (fault.Overflow c.in-Err-Overflow.pair) c.in-Err-Overflow.field-0-is c.requires.current c.in-Err-Overflow.ensures.stop s j in
      let less = subst (λ (n : ℕ). e.selected < n) (sym h.steps) c.requires.work.few in
      let left = c.leave-in-Err-Overflow in
      let t = stops_for_overflow budgets e.machine e.selected rest s less x.next e.machine.world.first.store.pivots c.in-Err-Overflow.pair x.stopped in
      rw c.in-Err-Overflow.field-0-is
      (stopped budgets left.new.e e.selected (why.Overflow c.in-Err-Overflow.pair) s t.0 left.ensures.ended
      (x.next.database ∙ sym c.in-Err-Overflow.ensures.err_database ∙ sym left.ensures.program.database) x.next.selected t.1 t.2),
  let same = c.leave-in-Err-Overflow.ensures.ended.selected in omega (arith, same),
)

pub returns-in-Err-Overflow-clause-running : goal.returns-in-Err-Overflow-clause-running
returns-in-Err-Overflow-clause-running c =
    let e = c.args.e.now in
    let left = c.leave-in-Err-Overflow in
    runs_stopped e left.new.e left.ensures.ended c.requires.running left.ensures.steps
    (λ s j. j.database ∙ sym c.in-Err-Overflow.ensures.err_database ∙ sym left.ensures.program.database)

pub returns-in-Err-Overflow-clause-keeps : goal.returns-in-Err-Overflow-clause-keeps
returns-in-Err-Overflow-clause-keeps c =
    let left = c.leave-in-Err-Overflow in
    keeps_gained c.args.e.now left.new.e c.execute_cell.new.m c.execute_cell.ensures.program left.ensures.program left.ensures.budget left.ensures.steps

pub returns-in-Err-Pivots-clause-turned : goal.returns-in-Err-Pivots-clause-turned
returns-in-Err-Pivots-clause-turned c = (
  λ budgets h s j.
      let e = c.args.e.now in
      let m = c.execute_cell.new.m in
      let k = c.args.k in
      let rest = c.in-Some.rest in
      let x = stops_so e m k rest _ (fault.Pivots c.in-Err-Pivots.exchanges) c.in-Err-Pivots.field-0-is c.requires.current c.in-Err-Pivots.ensures.stop s j in
      let less = subst (λ (n : ℕ). e.selected < n) (sym h.steps) c.requires.work.few in
      let left = c.leave-in-Err-Pivots in
      let t = stops_for_pivots budgets e.machine e.selected rest s less x.next e.machine.world.first.store.pivots c.in-Err-Pivots.exchanges h.pivots x.stopped in
      rw c.in-Err-Pivots.field-0-is
      (stopped budgets left.new.e e.selected (why.Pivots c.in-Err-Pivots.exchanges) s t.0 left.ensures.ended
      (x.next.database ∙ sym c.in-Err-Pivots.ensures.err_database ∙ sym left.ensures.program.database) x.next.selected t.1 t.2),
  let same = c.leave-in-Err-Pivots.ensures.ended.selected in omega (arith, same),
)

pub returns-in-Err-Pivots-clause-running : goal.returns-in-Err-Pivots-clause-running
returns-in-Err-Pivots-clause-running c =
    let e = c.args.e.now in
    let left = c.leave-in-Err-Pivots in
    runs_stopped e left.new.e left.ensures.ended c.requires.running left.ensures.steps
    (λ s j. j.database ∙ sym c.in-Err-Pivots.ensures.err_database ∙ sym left.ensures.program.database)

pub returns-in-Err-Pivots-clause-keeps : goal.returns-in-Err-Pivots-clause-keeps
returns-in-Err-Pivots-clause-keeps c =
    let left = c.leave-in-Err-Pivots in
    keeps_gained c.args.e.now left.new.e c.execute_cell.new.m c.execute_cell.ensures.program left.ensures.program left.ensures.budget left.ensures.steps

-- ---- want of memory

pub returns-clause-err : goal.returns-clause-err
returns-clause-err c =
    let e = c.args.e.now in
    let m = c.execute_cell.new.m in
    goes_at_once e (record e { machine = m })
    (λ s j. stands_still e.machine m e.selected e.current s c.in-Err-NoMemory.ensures.err c.in-Err-NoMemory.ensures.err_database j)
