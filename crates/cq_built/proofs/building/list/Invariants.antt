use Rattle.std.proofs.Common.{◌≡◌, ◌<◌, length, drop}
use Rattle.spec_syntax.specs.Trees.{list_tree}
use Rattle.cq_term.specs.Trees.{tree, trees}
use Rattle.cq_built.specs.Growing.{Grows}
use Rattle.cq_built.proofs.building.list.Given as goal

abbrev pub invariant-loop-i : goal.invariant-loop-i
invariant-loop-i l = record {
  whole : l.whole < length l.heap.now.terms;
  list : tree l.atoms l.heap.now.terms l.whole ≡ list_tree (trees l.fn.atoms l.fn.heap.now.terms (drop l.i l.elements));
  grows : Grows l.fn.atoms l.fn.heap l.atoms l.heap;
}
