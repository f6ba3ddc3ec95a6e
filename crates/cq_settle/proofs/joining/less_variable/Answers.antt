use Rattle.std.proofs.Common.{◌∙◌, ap, sym, arith}
use Rattle.spec_numbers.specs.Rational.{neg_ℚ}
use Rattle.spec_numbers.proofs.Sign.{one_not_zero}
use Rattle.cq_settle.proofs.Forms.{two_differ, neg_one_not_zero}
use Rattle.cq_settle.proofs.joining.less_variable.Goals as goal

pub new-requires : goal.new-requires
new-requires c = record {
  in_order = (
    omega arith,
    λ e. neg_one_not_zero (sym (c.neg.ensures ∙ ap neg_ℚ c.one-one.ensures) ∙ e),
    (omega (arith, c.requires), λ e. one_not_zero (sym c.one-one.ensures ∙ e), tt),
  );
}

pub returns : goal.returns
returns c = two_differ c.args.variable.0 c.args.older.0 c.neg.result c.one-one.result c.zero.result c.in_ok-new.field-0 c.requires
    (c.neg.ensures ∙ ap neg_ℚ c.one-one.ensures) c.one-one.ensures c.zero.ensures c.in_ok-new.ensures
