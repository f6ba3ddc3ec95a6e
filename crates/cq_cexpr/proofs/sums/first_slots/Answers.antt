use Rattle.std.proofs.Common.{Err, ap}
use Rattle.spec_numbers.specs.Sums.{unit}
use Rattle.cq_frac.proofs.Exits.{refusal_told}
use Rattle.cq_cexpr.proofs.Turns.{first_value}
use Rattle.cq_cexpr.proofs.sums.first_slots.Goals as goal

pub returns-in_err-join_all-clause-overflow : goal.returns-in_err-join_all-clause-overflow
returns-in_err-join_all-clause-overflow c = λ pair e.
    let m = c.in_err-join_all.ensures.overflow pair (ap Err (refusal_told _ _ pair c.from_residual-in_err-join_all.ensures.1 e)) in
    m.meets.0 (c.in_ok-slots.ensures.value (unit m.x))

pub returns-clause-value : goal.returns-clause-value
returns-clause-value c = λ v.
    first_value v c.in_ok-slots.slots.items c.join_all.new.slots.items c.entries.result.now c.args.form.now (c.in_ok-join_all.ensures.value v) (c.in_ok-slots.ensures.value v) c.entries.ensures.value
