use Rattle.spec_builtins.specs.Bodies.{converted_body}
use Rattle.cq_built.specs.Growing.{Grows}
use Rattle.cq_term.specs.Trees.{tree, KnowsTerms}
use Rattle.cq_built.specs.Bodies.{IsUnderWay, works, weights}
use Rattle.cq_built.proofs.bodies.convert.Given as goal

abbrev pub invariant-loop-task : goal.invariant-loop-task
invariant-loop-task l = record {
  way : IsUnderWay l.atoms l.heap.now.terms (converted_body (tree l.atoms l.fn.heap.now.terms l.fn.body)) l.tasks.items l.done.items;
  grows : Grows l.atoms l.fn.heap l.atoms l.heap;
  names : KnowsTerms l.atoms l.heap.now.terms;
}

abbrev pub decreases-loop-task : goal.decreases-loop-task
decreases-loop-task l = weights (works l.atoms l.heap.now.terms l.tasks.items)
