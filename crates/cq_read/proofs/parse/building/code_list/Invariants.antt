use Rattle.std.proofs.Common.{◌≡◌, ◌<◌, List, length, vec_len, map}
use Rattle.std.specs.Prelude.{reverse, pos}
use Rattle.spec_numbers.specs.Rational.{int_ℚ}
use Rattle.spec_terms.specs.Term.{Number}
use Rattle.spec_syntax.specs.Trees.{code_list}
use Rattle.spec_syntax.specs.Machine.{with_elements_before}
use Rattle.spec_numbers.specs.Texts.{Text}
use Rattle.cq_term.specs.Trees.{tree, KnowsTerms}
use Rattle.cq_read.specs.Views.{OnlyGrows}
use Rattle.cq_read.specs.Known.{AreGrammarNames}
use Rattle.cq_read.proofs.parse.building.code_list.Given as goal

abbrev pub invariant-loop-c : goal.invariant-loop-c
invariant-loop-c l = record {
  whole : l.whole < length l.heap.now.terms;
  list : (texts : List Text) → AreGrammarNames texts l.names →
      with_elements_before (reverse (map (λ c. Number (int_ℚ (pos c))) l.left.items)) (tree texts l.heap.now.terms l.whole) ≡ code_list l.text;
  names : (texts : List Text) → AreGrammarNames texts l.names → KnowsTerms texts l.fn.heap.now.terms → KnowsTerms texts l.heap.now.terms;
  heap : OnlyGrows l.fn.heap l.heap;
}

abbrev pub decreases-loop-c : goal.decreases-loop-c
decreases-loop-c l = vec_len l.left
