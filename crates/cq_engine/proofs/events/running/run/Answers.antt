use Rattle.std.proofs.Common.{arith, subst}
use Rattle.cq_engine.specs.Turning.{HasRun}
use Rattle.cq_engine.proofs.Turned.{keeps_both, keeps_none, goes_both, goes_at_once}
use Rattle.cq_engine.proofs.events.running.run.Goals as goal

pub calls-init : goal.calls-init
calls-init c = let e = c.args.e.now in record { running = c.requires; goes = goes_at_once e e (λ s j. j); counted = omega arith; keeps = keeps_none e }

pub calls-preserved : goal.calls-preserved
calls-preserved c =
    let i = c.calls.invariant in
    let e = c.args.e.now in
    let new = c.run_once.new.e in
    record {
      running = c.run_once.ensures.running;
      goes = goes_both e c.calls.e new i.keeps i.goes c.run_once.ensures.goes;
      counted = let before = i.counted in let more = c.run_once.ensures.counted in omega (arith, before, more);
      keeps = keeps_both e c.calls.e new i.keeps c.run_once.ensures.keeps;
    }

pub calls-smaller : goal.calls-smaller
calls-smaller c =
    let more = subst (HasRun c.calls.e c.run_once.new.e) c.in-On.is c.in-Ok.ensures.ran in
    let within = c.run_once.ensures.running.within in
    let steps = c.run_once.ensures.keeps.steps in
    omega (arith, more, within, steps)

pub returns-in-Row-clause-known : goal.returns-in-Row-clause-known
returns-in-Row-clause-known c = subst (HasRun c.calls.e c.run_once.new.e) c.in-Row.is c.in-Ok.ensures.ran

pub returns-in-Row-clause-goes : goal.returns-in-Row-clause-goes
returns-in-Row-clause-goes c =
    let i = c.calls.invariant in
    goes_both c.args.e.now c.calls.e c.run_once.new.e i.keeps i.goes c.run_once.ensures.goes

pub returns-in-Row-clause-keeps : goal.returns-in-Row-clause-keeps
returns-in-Row-clause-keeps c = keeps_both c.args.e.now c.calls.e c.run_once.new.e c.calls.invariant.keeps c.run_once.ensures.keeps

pub returns-in-Look-clause-goes : goal.returns-in-Look-clause-goes
returns-in-Look-clause-goes c =
    let i = c.calls.invariant in
    goes_both c.args.e.now c.calls.e c.run_once.new.e i.keeps i.goes c.run_once.ensures.goes

pub returns-in-Look-clause-keeps : goal.returns-in-Look-clause-keeps
returns-in-Look-clause-keeps c = keeps_both c.args.e.now c.calls.e c.run_once.new.e c.calls.invariant.keeps c.run_once.ensures.keeps

pub returns-in-Err-clause-goes : goal.returns-in-Err-clause-goes
returns-in-Err-clause-goes c =
    let i = c.calls.invariant in
    goes_both c.args.e.now c.calls.e c.run_once.new.e i.keeps i.goes c.run_once.ensures.goes

pub returns-in-Err-clause-keeps : goal.returns-in-Err-clause-keeps
returns-in-Err-clause-keeps c = keeps_both c.args.e.now c.calls.e c.run_once.new.e c.calls.invariant.keeps c.run_once.ensures.keeps
