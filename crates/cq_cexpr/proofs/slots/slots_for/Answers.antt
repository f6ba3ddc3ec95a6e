use Rattle.std.proofs.Common.{◌∙◌}
use Rattle.cq_cexpr.proofs.slots.slots_for.Goals as goal

pub loop-variable-preserved : goal.loop-variable-preserved
loop-variable-preserved c = record {
  rising = c.in_ok-slot_for.ensures.rising;
  value = λ v. c.in_ok-slot_for.ensures.value v ∙ c.loop-variable.invariant.value v;
}
