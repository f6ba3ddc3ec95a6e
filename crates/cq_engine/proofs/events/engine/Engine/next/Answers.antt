use Rattle.std.proofs.Common.{arith, subst}
use Rattle.cq_engine.specs.Turning.{Turned}
use Rattle.cq_engine.proofs.Turned.{keeps_both, keeps_none, goes_both, gives_both, counted_on, goes_at_once}
use Rattle.cq_engine.proofs.events.engine.Engine.next.Goals as goal

pub turns-init : goal.turns-init
turns-init c = let e = c.args.self.now in record { running = c.requires; goes = goes_at_once e e (λ s j. j); counted = omega arith; keeps = keeps_none e }

pub turns-preserved : goal.turns-preserved
turns-preserved c =
    let i = c.turns.invariant in
    let e = c.args.self.now in
    let mid = c.run.new.e in
    let new = c.turn.new.e in
    let turned = subst (Turned mid new) c.in-None.is c.in-Ok-turn.ensures.turned in
    let keeps = keeps_both e c.turns.self mid i.keeps c.run.ensures.keeps in
    record {
      running = c.turn.ensures.running;
      goes = goes_both e mid new keeps (goes_both e c.turns.self mid i.keeps i.goes c.run.ensures.goes) turned.0;
      counted = let more = turned.1 in let before = i.counted in let ran = c.run.ensures.counted in omega (arith, more, before, ran);
      keeps = keeps_both e mid new keeps c.turn.ensures.keeps;
    }

pub turns-smaller : goal.turns-smaller
turns-smaller c =
    let turned = subst (Turned c.run.new.e c.turn.new.e) c.in-None.is c.in-Ok-turn.ensures.turned in
    let more = turned.1 in
    let ran = c.run.ensures.counted in
    let within = c.turn.ensures.running.within in
    let steps = c.turn.ensures.keeps.steps in
    let same = c.run.ensures.keeps.steps in
    omega (arith, more, ran, within, steps, same)

pub returns-in-Some-clause-event : goal.returns-in-Some-clause-event
returns-in-Some-clause-event c =
    let i = c.turns.invariant in
    let e = c.args.self.now in
    let mid = c.run.new.e in
    let turned = subst (Turned mid c.turn.new.e) c.in-Some.is c.in-Ok-turn.ensures.turned in
    gives_both e mid c.turn.new.e c.in-Some.event (keeps_both e c.turns.self mid i.keeps c.run.ensures.keeps) (goes_both e c.turns.self mid i.keeps i.goes c.run.ensures.goes) turned.0

pub returns-in-Some-clause-selected : goal.returns-in-Some-clause-selected
returns-in-Some-clause-selected c =
    let turned = subst (Turned c.run.new.e c.turn.new.e) c.in-Some.is c.in-Ok-turn.ensures.turned in
    let before = c.turns.invariant.counted in
    let ran = c.run.ensures.counted in
    counted_on c.args.self.now c.run.new.e c.turn.new.e c.in-Some.event (omega (arith, before, ran)) turned.1

pub returns-in-Some-clause-keeps : goal.returns-in-Some-clause-keeps
returns-in-Some-clause-keeps c =
    let e = c.args.self.now in
    keeps_both e c.run.new.e c.turn.new.e (keeps_both e c.turns.self c.run.new.e c.turns.invariant.keeps c.run.ensures.keeps) c.turn.ensures.keeps

pub returns-in-Err-turn-clause-err : goal.returns-in-Err-turn-clause-err
returns-in-Err-turn-clause-err c =
    let i = c.turns.invariant in
    let e = c.args.self.now in
    let mid = c.run.new.e in
    goes_both e mid c.turn.new.e (keeps_both e c.turns.self mid i.keeps c.run.ensures.keeps) (goes_both e c.turns.self mid i.keeps i.goes c.run.ensures.goes) c.in-Err-turn.ensures.err

pub returns-in-Err-turn-clause-keeps : goal.returns-in-Err-turn-clause-keeps
returns-in-Err-turn-clause-keeps c =
    let e = c.args.self.now in
    keeps_both e c.run.new.e c.turn.new.e (keeps_both e c.turns.self c.run.new.e c.turns.invariant.keeps c.run.ensures.keeps) c.turn.ensures.keeps

pub returns-in-Err-clause-err : goal.returns-in-Err-clause-err
returns-in-Err-clause-err c =
    let i = c.turns.invariant in
    goes_both c.args.self.now c.turns.self c.run.new.e i.keeps i.goes c.run.ensures.goes

pub returns-in-Err-clause-keeps : goal.returns-in-Err-clause-keeps
returns-in-Err-clause-keeps c = keeps_both c.args.self.now c.turns.self c.run.new.e c.turns.invariant.keeps c.run.ensures.keeps
