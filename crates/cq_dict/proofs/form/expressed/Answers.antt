use Rattle.std.proofs.Common.{◌<◌, ◌≤◌, Err, ap, sym, subst, arith, length}
use Rattle.spec_numbers.specs.Rational.{◌+ℚ◌, 0ℚ}
use Rattle.cq_frac.proofs.Exits.{refusal_told}
use Rattle.cq_frac.proofs.Shifts.{over_anywhere}
use Rattle.cq_frac.proofs.Steps.{has_at}
use Rattle.cq_dict.specs.Roles.{Expresses, is_live, is_dropped}
use Rattle.cq_dict.proofs.Products.{nothing_yet, zero_more, one_more, form_pair, none_at_first, none_by_zero, none_by_join, none_at_end}
use Rattle.cq_dict.proofs.form.expressed.Goals as goal

pub loop-m-init : goal.loop-m-init
loop-m-init c = record {
  gave = subst (Expresses c.args.roles.now (λ x. c.args.constant +ℚ 0ℚ)) (sym c.of_constant-sum.ensures) (nothing_yet c.args.roles.now c.args.constant);
  none = none_at_first c.args.roles.now c.args.form.now c.args.constant;
}

pub loop-m-preserved-then-is_zero : goal.loop-m-preserved-then-is_zero
loop-m-preserved-then-is_zero c =
    let l : c.loop-m.m-index < length c.args.form.now = omega arith in
    record {
      gave = zero_more c.args.roles.now c.args.form.now c.args.constant c.loop-m.m-index c.m-item.result c.loop-m.sum l c.m-item.is c.loop-m.invariant.gave (c.is_zero.ensures.0 c.if-is_zero.true);
      none = none_by_zero c.args.roles.now c.requires.table c.args.form.now c.args.constant c.loop-m.m-index c.m-item.result l c.m-item.is c.loop-m.invariant.none (c.is_zero.ensures.0 c.if-is_zero.true);
    }

pub added-requires-clause-sum_row : goal.added-requires-clause-sum_row
added-requires-clause-sum_row c = over_anywhere (is_live c.args.roles.now) (is_dropped c.args.roles.now) c.loop-m.sum c.loop-m.invariant.gave.over

pub added-requires-clause-there : goal.added-requires-clause-there
added-requires-clause-there c =
    let l : c.loop-m.m-index < length c.args.form.now = omega arith in
    c.requires.there c.m-item.result (has_at _ _ c.m-item.result l c.m-item.is)

pub returns-in_err-sum-clause-overflow : goal.returns-in_err-sum-clause-overflow
returns-in_err-sum-clause-overflow c = λ pair e.
    let l : c.loop-m.m-index < length c.args.form.now = omega arith in
    form_pair c.args.roles.now c.args.form.now c.args.constant c.loop-m.m-index c.m-item.result c.loop-m.sum l c.m-item.is c.loop-m.invariant.gave pair
    (λ z. let t = c.is_zero.ensures.1 z in let f = c.if-is_zero.false in cc) (c.in_err-sum.ensures.overflow pair (ap Err (refusal_told _ _ pair c.from_residual.ensures.1 e)))

pub loop-m-preserved : goal.loop-m-preserved
loop-m-preserved c =
    let l : c.loop-m.m-index < length c.args.form.now = omega arith in
    let a = c.in_ok-sum.ensures.value in
    record {
      gave = one_more c.args.roles.now c.args.form.now c.args.constant c.loop-m.m-index c.m-item.result c.loop-m.sum l c.m-item.is c.loop-m.invariant.gave a.own _ a.expresses a.joined;
      none = none_by_join c.args.roles.now c.requires.table c.args.form.now c.args.constant c.loop-m.m-index c.m-item.result l c.m-item.is c.loop-m.invariant.none c.loop-m.sum a.own c.loop-m.invariant.gave a.expresses a.accepted;
    }

pub returns-clause-accepted : goal.returns-clause-accepted
returns-clause-accepted c =
    let l : length c.args.form.now ≤ c.loop-m.m-index = omega arith in
    none_at_end c.args.roles.now c.args.form.now c.args.constant c.loop-m.m-index l c.loop-m.invariant.none
