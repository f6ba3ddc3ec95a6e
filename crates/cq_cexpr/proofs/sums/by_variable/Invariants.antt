use Rattle.std.proofs.Common.{take}
use Rattle.cq_cexpr.specs.Sums.{all_joined}
use Rattle.cq_cexpr.proofs.Turns.{IsHeld}
use Rattle.cq_cexpr.proofs.sums.by_variable.Given as goal

abbrev pub invariant-loop-next : goal.invariant-loop-next
invariant-loop-next l = IsHeld (all_joined l.first (take l.next-index l.more)) l.constant l.slots.items
