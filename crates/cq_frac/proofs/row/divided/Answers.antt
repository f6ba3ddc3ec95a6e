use Rattle.std.proofs.Common.{◌<◌, length, arith, subst}
use Rattle.cq_frac.specs.declared.Operation.TheVariants.{Quotient}
use Rattle.cq_frac.proofs.Exits.{pair_told}
use Rattle.cq_frac.specs.Refused.{Tells}
use Rattle.cq_frac.proofs.Refusals.{never_both}
use Rattle.cq_frac.proofs.Steps.{over_more, no_quotient_more, has_at}
use Rattle.cq_frac.proofs.row.divided.Goals as goal

pub returns-in_err-quotient-clause-overflow : goal.returns-in_err-quotient-clause-overflow
returns-in_err-quotient-clause-overflow c = λ pair e.
    let l : c.loop-m.m-index < length c.args.row.now = omega arith in
    record {
      entry = c.m-item.result;
      in_row = has_at _ _ _ l c.m-item.is;
      tells = subst (Tells Quotient c.m-item.result.factor c.args.divisor) (pair_told _ _ pair c.from_residual-in_err-quotient.ensures.1 e) c.in_err-quotient.ensures;
    }

pub loop-m-preserved : goal.loop-m-preserved
loop-m-preserved c =
    let l : c.loop-m.m-index < length c.args.row.now = omega arith in
    record {
      value = over_more c.args.row.now _ _ c.loop-m.m-index c.m-item.result c.in_ok-quotient.field-0 l c.m-item.is c.in_ok-push.ensures.items c.args.divisor c.loop-m.invariant.value c.in_ok-quotient.ensures.0;
      accepted = no_quotient_more c.args.row.now c.loop-m.m-index c.m-item.result c.args.divisor l c.m-item.is c.loop-m.invariant.accepted (never_both Quotient _ _ c.in_ok-quotient.ensures.1);
    }
