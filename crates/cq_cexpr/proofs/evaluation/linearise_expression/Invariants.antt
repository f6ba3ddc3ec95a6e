use Rattle.std.proofs.Common.{◌+◌}
use Rattle.cq_term.specs.Trees.{tree}
use Rattle.spec_branch.specs.Alike.{no_values}
use Rattle.spec_transcript.specs.Operands.{expression_operands}
use Rattle.cq_cexpr.specs.Work.{read_at, IsUnderWay, all_work, step_work}
use Rattle.cq_cexpr.proofs.evaluation.linearise_expression.Given as goal

abbrev pub invariant-loop-step : goal.invariant-loop-step
invariant-loop-step l =
    IsUnderWay l.atoms l.heap.now.terms (expression_operands no_values (tree l.atoms l.heap.now.terms l.fn.term)) (read_at l.atoms l.heap.now.terms l.fn.term) l.under_way.items l.step

abbrev pub decreases-loop-step : goal.decreases-loop-step
decreases-loop-step l = all_work l.heap.now.terms l.under_way.items + step_work l.heap.now.terms l.step
