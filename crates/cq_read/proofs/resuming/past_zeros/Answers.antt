use Rattle.std.proofs.Common.{arith, sym, ◌∙◌}
use Rattle.cq_read.proofs.Zeros.{zeros_passed}
use Rattle.cq_read.proofs.resuming.past_zeros.Goals as goal

pub loop-at-preserved : goal.loop-at-preserved
loop-at-preserved c = record {
  forward = omega arith;
  fits = omega arith;
  same = λ to r. c.loop-at.invariant.same to (zeros_passed c.args.text.now c.loop-at.at to (sym c.leads_with_zeros.ensures ∙ c.if-leads_with_zeros.true) r);
}
