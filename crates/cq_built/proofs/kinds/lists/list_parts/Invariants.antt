use Rattle.std.proofs.Common.{◌≡◌, ◌<◌, All, length}
use Rattle.spec_terms.specs.Term.{size}
use Rattle.spec_builtins.specs.Kinds.{parts}
use Rattle.cq_term.specs.Meaning.{at}
use Rattle.cq_term.specs.Trees.{tree, trees}
use Rattle.cq_built.proofs.Listed.{behind}
use Rattle.cq_built.proofs.kinds.lists.list_parts.Given as goal

abbrev pub invariant-loop-cell : goal.invariant-loop-cell
invariant-loop-cell l = record {
  elements : All (λ id. id < length l.heap.now.terms) l.elements.items;
  live : l.tail < length l.heap.now.terms;
  parts : parts (tree l.atoms l.heap.now.terms l.fn.term) ≡ behind (trees l.atoms l.heap.now.terms l.elements.items) (parts (tree l.atoms l.heap.now.terms l.tail));
}

abbrev pub decreases-loop-cell : goal.decreases-loop-cell
decreases-loop-cell l = size (at l.heap.now.terms l.tail)
