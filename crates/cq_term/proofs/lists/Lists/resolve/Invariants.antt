use Rattle.cq_term.proofs.Meanings.{steps_left}
use Rattle.cq_term.specs.Rep.{Reaches}
use Rattle.cq_term.specs.Layout.{contents, all_built, bindings}
use Rattle.cq_term.proofs.lists.Lists.resolve.Given as goal

abbrev pub invariant-loop-variable : goal.invariant-loop-variable
invariant-loop-variable l = Reaches (all_built (contents l.self)) (bindings (contents l.self)) l.fn.id l.end

abbrev pub decreases-loop-variable : goal.decreases-loop-variable
decreases-loop-variable l = steps_left (all_built (contents l.self)) (bindings (contents l.self)) l.end
