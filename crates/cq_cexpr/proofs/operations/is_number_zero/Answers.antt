use Rattle.std.proofs.Common.{sym, ◌∙◌}
use Rattle.cq_cexpr.proofs.Numbers.{zero_number}
use Rattle.cq_cexpr.proofs.operations.is_number_zero.Goals as goal

pub returns-in-Some : goal.returns-in-Some
returns-in-Some c = zero_number c.args.form.now c.in-Some.number c.is_zero.result (sym c.number.ensures.value ∙ c.in-Some.is) c.is_zero.ensures
