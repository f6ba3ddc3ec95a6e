use Rattle.std.proofs.Common.{◌≡◌, ◌<◌, List, length, All, vec_len}
use Rattle.spec_numbers.specs.Texts.{Text}
use Rattle.spec_syntax.specs.Machine.{with_elements_before}
use Rattle.cq_term.specs.Trees.{tree, KnowsTerms}
use Rattle.cq_read.specs.Views.{OnlyGrows, trees}
use Rattle.cq_read.specs.Known.{AreGrammarNames}
use Rattle.cq_read.proofs.parse.building.list.Given as goal

abbrev pub invariant-loop-element : goal.invariant-loop-element
invariant-loop-element l = record {
  elements : All (λ i. i < length l.heap.now.terms) l.left.items;
  whole : l.whole < length l.heap.now.terms;
  list : (texts : List Text) → AreGrammarNames texts l.names →
      with_elements_before (trees texts l.heap.now.terms l.left.items) (tree texts l.heap.now.terms l.whole) ≡ with_elements_before (trees texts l.fn.heap.now.terms l.fn.elements.items) (tree texts l.fn.heap.now.terms l.fn.tail);
  names : (texts : List Text) → AreGrammarNames texts l.names → KnowsTerms texts l.fn.heap.now.terms → KnowsTerms texts l.heap.now.terms;
  heap : OnlyGrows l.fn.heap l.heap;
}

abbrev pub decreases-loop-element : goal.decreases-loop-element
decreases-loop-element l = vec_len l.left
