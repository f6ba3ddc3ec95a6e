use Rattle.std.proofs.Common.{◌∙◌, sym, arith}
use Rattle.spec_numbers.proofs.Sign.{one_not_zero}
use Rattle.cq_settle.proofs.Forms.{one_differs}
use Rattle.cq_settle.proofs.joining.less_number.Goals as goal

pub new-requires : goal.new-requires
new-requires c = record { in_order = (omega arith, λ e. one_not_zero (sym c.one.ensures ∙ e), tt) }

pub returns : goal.returns
returns c = one_differs c.args.variable.0 c.args.value c.one.result c.neg.result c.in_ok-new.field-0 c.neg.ensures c.one.ensures c.in_ok-new.ensures
