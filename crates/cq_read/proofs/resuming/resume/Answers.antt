use Rattle.std.proofs.Common.{ℕ, sym, subst, ap, ◌+◌, ◌∙◌, ◌≤◌, ◌<◌, arith, length}
use Rattle.spec_text.specs.Readings.{Resumes}
use Rattle.cq_read.specs.LexShown.{shown}
use Rattle.cq_read.proofs.Passing.{at_stop, at_last, over_token, past_last, past_fault, Same}
use Rattle.cq_read.proofs.resuming.resume.Goals as goal

pub returns-in-End : goal.returns-in-End
returns-in-End c = at_stop c.args.text.now c.args.from c.loop-token.at (shown c.in-Ok.token) c.in-Ok.ensures.value c.loop-token.invariant.same c.in-End.is

pub returns-in-Eof : goal.returns-in-Eof
returns-in-Eof c = at_last c.args.text.now c.args.from c.loop-token.at (shown c.in-Ok.token) c.in-Ok.ensures.value c.loop-token.invariant.same c.in-Eof.is

pub loop-token-smaller-in_default : goal.loop-token-smaller-in_default
loop-token-smaller-in_default c =
    let on = over_token c.args.text.now c.args.from c.loop-token.at (shown c.in-Ok.token) c.in-Ok.ensures.value c.loop-token.invariant.same c.loop-token.invariant.fits c.in_default.not-End c.in_default.not-Eof in
    omega (arith, on.0, on.1)

pub loop-token-preserved-in_default : goal.loop-token-preserved-in_default
loop-token-preserved-in_default c =
    let on = over_token c.args.text.now c.args.from c.loop-token.at (shown c.in-Ok.token) c.in-Ok.ensures.value c.loop-token.invariant.same c.loop-token.invariant.fits c.in_default.not-End c.in_default.not-Eof in
    record { fits = on.1; same = on.2 }

pub returns-then-place-text : goal.returns-then-place-text
returns-then-place-text c =
    let there = c.place_of-place.ensures in
    subst (Resumes c.args.text.now c.args.from) (sym there)
    (past_last c.args.text.now c.args.from c.loop-token.at c.in-Err.fault c.in-Err.ensures.value c.loop-token.invariant.same c.loop-token.invariant.fits (omega (arith, there, c.if-place-text.true)))

pub loop-token-smaller : goal.loop-token-smaller
loop-token-smaller c =
    let there = c.place_of-place.ensures in
    let on = past_fault c.args.text.now c.args.from c.loop-token.at c.in-Err.fault c.in-Err.ensures.value c.loop-token.invariant.same c.loop-token.invariant.fits (omega (arith, there, c.if-place-text.false)) in
    omega (arith, on.0, on.1, there, c.past_zeros-at.ensures.forward, c.past_zeros-at.ensures.within)

pub loop-token-preserved : goal.loop-token-preserved
loop-token-preserved c =
    let there = c.place_of-place.ensures in
    let on = past_fault c.args.text.now c.args.from c.loop-token.at c.in-Err.fault c.in-Err.ensures.value c.loop-token.invariant.same c.loop-token.invariant.fits (omega (arith, there, c.if-place-text.false)) in
    record { fits = c.past_zeros-at.ensures.within; same = λ to r. on.2 to (subst (λ x. Resumes c.args.text.now x to) (ap (λ x. x + 1) there) (c.past_zeros-at.ensures.same to r)) }
