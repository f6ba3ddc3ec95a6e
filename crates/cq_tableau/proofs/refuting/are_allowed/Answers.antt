use Rattle.std.proofs.Common.{◌<◌, length, arith, subst}
use Rattle.spec_numbers.specs.Rational.{ℚ}
use Rattle.std.proofs.Common.{ℕ}
use Rattle.spec_linear.specs.Certificate.{IsAllowed}
use Rattle.cq_tableau.specs.Refuted.{number_in}
use Rattle.cq_tableau.proofs.Certified.{all_next}
use Rattle.cq_tableau.proofs.refuting.are_allowed.Goals as goal

pub loop-m-preserved : goal.loop-m-preserved
loop-m-preserved c =
    let l : c.loop-m.m-index < length c.args.row.now = omega arith in
    all_next (IsAllowed c.args.told.now) (number_in c.args.names.now.now) c.args.row.now c.loop-m.m-index c.m-item.result l c.m-item.is c.loop-m.invariant
    (subst (λ (e : ℕ × ℚ). IsAllowed c.args.told.now e) (λ i. (c.member_number.ensures i, c.neg.ensures i)) (c.is_allowed.ensures c.if-not-is_allowed.false))
