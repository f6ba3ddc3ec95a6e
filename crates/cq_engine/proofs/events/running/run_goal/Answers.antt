use Rattle.std.proofs.Common.{◌≡◌, ◌∷◌, [], ℕ, List, None, Some, arith, refl, sym, ap, ◌∙◌, subst}
use Rattle.cq_control.specs.Items.{items_at}
use Rattle.spec_engine.specs.declared.machine.cell.Cell.{Cell}
use Rattle.spec_engine.specs.declared.machine.cell.Cell.TheVariants.{Goal}
use Rattle.cq_predicates.specs.declared.table.builtins.Builtin.{Builtin}
use Rattle.cq_machine.specs.declared.machine.Machine.{Machine}
use Rattle.cq_machine.specs.Machines.{StillStands, database_of}
use Rattle.cq_execute.specs.Rows.{IsCallOf}
use Rattle.cq_engine.specs.Turning.{CallsAt, CallsInFront}
use Rattle.cq_engine.proofs.Ended.{advanced, runs_on}
use Rattle.cq_engine.proofs.InFront.{goes_still, is_sound, runs_still, selects}
use Rattle.cq_engine.proofs.Turned.{keeps_at}
use Rattle.cq_engine.proofs.events.running.run_goal.Goals as goal

-- ---- the goal in front

pub execute_small-requires-clause-sound : goal.execute_small-requires-clause-sound
execute_small-requires-clause-sound c = is_sound c.args.e.now c.requires.front.k c.requires.front.current c.requires.running

pub execute_small-requires-clause-selected : goal.execute_small-requires-clause-selected
execute_small-requires-clause-selected c =
    let run = c.requires.running in
    let x = selects c.args.e.now c.args.goal c.args.height c.args.rest c.requires.front run.search run.stands in
    (_, _, _, x.1)

-- ---- it goes on

pub returns-in-Goes-clause-ran : goal.returns-in-Goes-clause-ran
returns-in-Goes-clause-ran c = let more = c.go_on.ensures.selected in omega (arith, more)

pub returns-in-Goes-clause-goes : goal.returns-in-Goes-clause-goes
returns-in-Goes-clause-goes c =
    let e = c.args.e.now in
    let done = rw c.in-Goes.is at (rw c.in-Ok.is at c.execute_small.ensures) in
    (advanced e (record e { machine = c.execute_small.new.m }) c.go_on.new.e c.args.rest (Some c.in-Goes.next) [] refl c.go_on.ensures c.requires.few
    (λ s j. let x = selects e c.args.goal c.args.height c.args.rest c.requires.front s j in (x.0, done.row _ _ _ x.1)) None refl).0

pub returns-in-Goes-clause-counted : goal.returns-in-Goes-clause-counted
returns-in-Goes-clause-counted c = let more = c.go_on.ensures.selected in omega (arith, more)

pub returns-in-Goes-clause-running : goal.returns-in-Goes-clause-running
returns-in-Goes-clause-running c =
    let e = c.args.e.now in
    let done = rw c.in-Goes.is at (rw c.in-Ok.is at c.execute_small.ensures) in
    runs_on e (record e { machine = c.execute_small.new.m }) c.go_on.new.e c.args.rest (Some c.in-Goes.next) [] refl c.go_on.ensures c.requires.few
    (λ s j. let x = selects e c.args.goal c.args.height c.args.rest c.requires.front s j in (x.0, done.row _ _ _ x.1)) c.requires.running done.sound refl

pub returns-in-Goes-clause-keeps : goal.returns-in-Goes-clause-keeps
returns-in-Goes-clause-keeps c =
    let at = c.go_on.ensures in
    keeps_at c.args.e.now c.go_on.new.e c.execute_small.new.m c.execute_small.ensures.program at.machine at.steps

-- ---- it comes back

pub returns-in-Back-clause-ran : goal.returns-in-Back-clause-ran
returns-in-Back-clause-ran c = let more = c.go_on-in-Back.ensures.selected in omega (arith, more)

pub returns-in-Back-clause-goes : goal.returns-in-Back-clause-goes
returns-in-Back-clause-goes c =
    let e = c.args.e.now in
    let done = rw c.in-Back.is at (rw c.in-Ok.is at c.execute_small.ensures) in
    (advanced e (record e { machine = c.execute_small.new.m }) c.go_on-in-Back.new.e c.args.rest None [] refl c.go_on-in-Back.ensures c.requires.few
    (λ s j. let x = selects e c.args.goal c.args.height c.args.rest c.requires.front s j in (x.0, done.row _ _ _ x.1)) None refl).0

pub returns-in-Back-clause-counted : goal.returns-in-Back-clause-counted
returns-in-Back-clause-counted c = let more = c.go_on-in-Back.ensures.selected in omega (arith, more)

pub returns-in-Back-clause-running : goal.returns-in-Back-clause-running
returns-in-Back-clause-running c =
    let e = c.args.e.now in
    let done = rw c.in-Back.is at (rw c.in-Ok.is at c.execute_small.ensures) in
    runs_on e (record e { machine = c.execute_small.new.m }) c.go_on-in-Back.new.e c.args.rest None [] refl c.go_on-in-Back.ensures c.requires.few
    (λ s j. let x = selects e c.args.goal c.args.height c.args.rest c.requires.front s j in (x.0, done.row _ _ _ x.1)) c.requires.running done.sound refl

pub returns-in-Back-clause-keeps : goal.returns-in-Back-clause-keeps
returns-in-Back-clause-keeps c =
    let at = c.go_on-in-Back.ensures in
    keeps_at c.args.e.now c.go_on-in-Back.new.e c.execute_small.new.m c.execute_small.ensures.program at.machine at.steps

-- ---- it is refused

pub returns-in-Refused-clause-goes : goal.returns-in-Refused-clause-goes
returns-in-Refused-clause-goes c =
    let alone = (rw c.in-Refused.is at (rw c.in-Ok.is at c.execute_small.ensures)).alone in
    goes_still c.args.e.now c.execute_small.new.m alone.stands alone.database

pub returns-in-Refused-clause-running : goal.returns-in-Refused-clause-running
returns-in-Refused-clause-running c =
    let done = rw c.in-Refused.is at (rw c.in-Ok.is at c.execute_small.ensures) in
    runs_still c.args.e.now c.execute_small.new.m done.alone.stands done.alone.database done.sound c.requires.running

pub returns-in-Refused-clause-keeps : goal.returns-in-Refused-clause-keeps
returns-in-Refused-clause-keeps c =
    let e = c.args.e.now in
    let m = c.execute_small.new.m in
    keeps_at e (record e { machine = m }) m c.execute_small.ensures.program refl refl

-- ---- its row is another

calls_at : (m : Machine) (k t height : ℕ) (cells : List Cell) (b : Builtin) → items_at m.world.second.now k ≡ Goal t height ∷ cells → IsCallOf m t b → CallsAt m k b
calls_at m k t height cells b e h = λ id low more f.
    let both : Goal t height ∷ cells ≡ Goal id low ∷ more = sym e ∙ f in
    let same : t ≡ id = cc in
    subst (λ (i : ℕ). IsCallOf m i b) same h

still : (old new : Machine) → new ≡ old → StillStands old new
still old new e = subst (StillStands old) (sym e) (λ db n current s j. j)

pub returns-in-Row-clause-ran : goal.returns-in-Row-clause-ran
returns-in-Row-clause-ran c =
    let e = c.args.e.now in
    let front = c.requires.front in
    let alone = (rw c.in-Row.is at (rw c.in-Ok.is at c.execute_small.ensures)).alone in
    subst (λ (m : Machine). CallsInFront m e.selected e.steps e.current c.in-Row.builtin) (sym alone.0)
    (record {
      k = front.k;
      at = front.current;
      work = record {
        sound = is_sound e front.k front.current c.requires.running;
        rest = c.args.rest;
        earlier = front.front.earlier;
        cell = Goal c.args.goal c.args.height;
        cells = front.front.cells;
        goal = tt;
        few = c.requires.few;
      };
      calls = calls_at e.machine front.k c.args.goal c.args.height (items_at e.machine.world.second.now c.args.rest) c.in-Row.builtin front.front.cells alone.1;
    })

pub returns-in-Row-clause-goes : goal.returns-in-Row-clause-goes
returns-in-Row-clause-goes c =
    let e = c.args.e.now in
    let m = c.execute_small.new.m in
    let same = (rw c.in-Row.is at (rw c.in-Ok.is at c.execute_small.ensures)).alone.0 in
    goes_still e m (still e.machine m same) (ap database_of same)

pub returns-in-Row-clause-running : goal.returns-in-Row-clause-running
returns-in-Row-clause-running c =
    let e = c.args.e.now in
    let m = c.execute_small.new.m in
    let done = rw c.in-Row.is at (rw c.in-Ok.is at c.execute_small.ensures) in
    runs_still e m (still e.machine m done.alone.0) (ap database_of done.alone.0) done.sound c.requires.running

pub returns-in-Row-clause-keeps : goal.returns-in-Row-clause-keeps
returns-in-Row-clause-keeps c =
    let e = c.args.e.now in
    let m = c.execute_small.new.m in
    keeps_at e (record e { machine = m }) m c.execute_small.ensures.program refl refl

-- ---- want of memory

pub returns-in-Err-clause-goes : goal.returns-in-Err-clause-goes
returns-in-Err-clause-goes c =
    let done = rw c.in-Err.is at c.execute_small.ensures in
    goes_still c.args.e.now c.execute_small.new.m done.err.stands done.err.database

pub returns-in-Err-clause-running : goal.returns-in-Err-clause-running
returns-in-Err-clause-running c =
    let done = rw c.in-Err.is at c.execute_small.ensures in
    runs_still c.args.e.now c.execute_small.new.m done.err.stands done.err.database done.sound c.requires.running

pub returns-in-Err-clause-keeps : goal.returns-in-Err-clause-keeps
returns-in-Err-clause-keeps c =
    let e = c.args.e.now in
    let m = c.execute_small.new.m in
    keeps_at e (record e { machine = m }) m c.execute_small.ensures.program refl refl
