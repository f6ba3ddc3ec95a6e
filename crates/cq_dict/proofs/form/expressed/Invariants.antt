use Rattle.std.proofs.Common.{take}
use Rattle.spec_numbers.specs.Rational.{◌+ℚ◌}
use Rattle.cq_frac.specs.Rows.{sum_at}
use Rattle.cq_dict.specs.Roles.{Expresses}
use Rattle.cq_dict.proofs.Products.{NoneBefore}
use Rattle.cq_dict.proofs.form.expressed.Given as goal

abbrev pub invariant-loop-m : goal.invariant-loop-m
invariant-loop-m l = record {
  gave : Expresses l.roles (λ x. l.fn.constant +ℚ sum_at x (take l.m-index l.form)) l.sum;
  none : NoneBefore l.roles l.form l.fn.constant l.m-index;
}
