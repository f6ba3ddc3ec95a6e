use Rattle.std.proofs.Common.{Some, sym, ap, ◌∙◌, arith}
use Rattle.spec_text.proofs.Onward.{next_there, fault_there}
use Rattle.cq_read.specs.LexShown.{shown}
use Rattle.cq_read.proofs.Passing.{fault_here, no_fault_at_end, no_fault_at_eof, fault_behind}
use Rattle.cq_read.proofs.resuming.first_fault.Goals as goal

pub returns-in-End-clause-first : goal.returns-in-End-clause-first
returns-in-End-clause-first c p comes =
    absurd (no_fault_at_end c.args.text.now c.args.from c.loop-token.at (shown c.in-Ok.token) c.in-Ok.ensures.value c.in-End.is p (c.loop-token.invariant.same p comes))

pub returns-in-Eof-clause-first : goal.returns-in-Eof-clause-first
returns-in-Eof-clause-first c p comes =
    absurd (no_fault_at_eof c.args.text.now c.args.from c.loop-token.at (shown c.in-Ok.token) c.in-Ok.ensures.value c.in-Eof.is p (c.loop-token.invariant.same p comes))

pub loop-token-smaller : goal.loop-token-smaller
loop-token-smaller c =
    let there = next_there c.args.text.now c.loop-token.at (shown c.in-Ok.token) c.loop-token.invariant.fits (sym c.in-Ok.ensures.value) in
    omega (arith, there.behind, there.takes c.in_default.not-Eof, there.within)

pub loop-token-preserved : goal.loop-token-preserved
loop-token-preserved c =
    let there = next_there c.args.text.now c.loop-token.at (shown c.in-Ok.token) c.loop-token.invariant.fits (sym c.in-Ok.ensures.value) in
    record {
      fits = there.within;
      same = λ p comes. fault_behind c.args.text.now c.args.from c.loop-token.at (shown c.in-Ok.token) c.in-Ok.ensures.value p (c.loop-token.invariant.same p comes);
    }

pub returns-in-Err-clause-first : goal.returns-in-Err-clause-first
returns-in-Err-clause-first c p comes =
    ap (λ x. Some x) (c.place_of.ensures ∙ sym (fault_here c.args.text.now c.args.from c.loop-token.at c.in-Err.fault c.in-Err.ensures.value p (c.loop-token.invariant.same p comes)))

pub returns-in-Err-clause-within : goal.returns-in-Err-clause-within
returns-in-Err-clause-within c = omega (arith, c.place_of.ensures, (fault_there c.args.text.now c.loop-token.at c.in-Err.fault c.loop-token.invariant.fits (sym c.in-Err.ensures.value)).1)
