use Rattle.std.proofs.Common.{◌≡◌, Option, refl, subst}
use Rattle.std.specs.Prelude.{Ok, Err, IfOk}
use Rattle.std.specs.declared.result.Result.{Result}
use Rattle.std.specs.declared.alloc.AllocError.{AllocError}
use Rattle.spec_syntax.specs.Trees.{Tree}
use Rattle.cq_machine.specs.Machines.{database_of, StillStands}
use Rattle.cq_engine.proofs.Engines.{gains_on}
use Rattle.cq_engine.specs.declared.events.engine.Engine.{Engine}
use Rattle.cq_engine.specs.declared.events.event.Event.{Event}
use Rattle.cq_engine.specs.Turning.{IsRaised, IsThrown}
use Rattle.cq_engine.proofs.Selections.{up_still}
use Rattle.cq_engine.proofs.events.turning.raise.Goals as goal

pub throw-requires-clause-comes_up : goal.throw-requires-clause-comes_up
throw-requires-clause-comes_up c =
    let m = c.args.e.now.machine in
    let u = c.requires.comes_up in
    (u.0, u.1, u.2, up_still m c.build_ball.new.m c.build_ball.ensures.stands c.args.from u.0 u.1 u.2 u.3)

raised : (old mid new : Engine) (ball term : Tree) (from : _) → StillStands old.machine mid.machine → database_of mid.machine ≡ database_of old.machine → mid.selected ≡ old.selected
    → term ≡ ball → (r : Result (Option Event) AllocError) → IfOk r (IsThrown mid new term from) → IfOk r (IsRaised old new ball from)
raised old mid new ball term from still database selected e (Ok told) h =
    record { mid = mid; still = still; database = database; selected = selected; thrown = subst (λ (t : Tree). IsThrown mid new t from told) e h }
raised old mid new ball term from still database selected e (Err fault) h = tt

pub returns-clause-thrown : goal.returns-clause-thrown
returns-clause-thrown c =
    let e = c.args.e.now in
    raised e (record e { machine = c.build_ball.new.m }) c.throw.new.e _ _ c.args.from c.build_ball.ensures.stands c.build_ball.ensures.program.database refl c.in_ok-ball.ensures.built
    c.throw.result c.throw.ensures.thrown

pub returns-clause-program : goal.returns-clause-program
returns-clause-program c = gains_on c.args.e.now.machine c.build_ball.new.m c.throw.new.e.machine c.build_ball.ensures.program c.throw.ensures.program
