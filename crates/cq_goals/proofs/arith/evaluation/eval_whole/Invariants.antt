use Rattle.std.proofs.Common.{◌+◌}
use Rattle.cq_goals.specs.Work.{evaluated_at, IsUnderWay, all_work, step_work}
use Rattle.cq_goals.proofs.arith.evaluation.eval_whole.Given as goal

abbrev pub invariant-loop-step : goal.invariant-loop-step
invariant-loop-step l = IsUnderWay l.atoms l.heap.now.terms (evaluated_at l.atoms l.heap.now.terms l.fn.term) l.under_way.items l.step

abbrev pub decreases-loop-step : goal.decreases-loop-step
decreases-loop-step l = all_work l.heap.now.terms l.under_way.items + step_work l.heap.now.terms l.step
