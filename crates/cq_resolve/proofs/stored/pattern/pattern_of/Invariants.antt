use Rattle.std.proofs.Common.{◌≡◌, ◌<◌, ◌++◌, length, map, reverse, All}
use Rattle.std.specs.List.{sum_by}
use Rattle.spec_terms.specs.Term.{size, apply}
use Rattle.spec_terms.specs.Variables.{variables_after, numbered_from}
use Rattle.cq_term.specs.Meaning.{at}
use Rattle.cq_term.specs.Places.{numbers_of}
use Rattle.cq_unify.specs.Listing.{variables_through}
use Rattle.cq_resolve.specs.Pattern.{heads}
use Rattle.cq_resolve.specs.Marks.{shown, Written}
use Rattle.cq_resolve.proofs.Reading.{all_heads}
use Rattle.cq_resolve.proofs.stored.pattern.pattern_of.Given as goal

abbrev pub invariant-loop-id : goal.invariant-loop-id
invariant-loop-id l = record {
  live : All (λ id. id < length l.heap.now.terms) l.work.items;
  variables : variables_through (numbers_of l.originals.keys) (map (at l.heap.now.terms) l.work.items) ≡ variables_after (numbers_of l.fn.originals.keys) (at l.heap.now.terms l.fn.term);
  pattern :
      map shown l.pattern.items ++ all_heads (map (apply (numbered_from 0 (variables_after (numbers_of l.fn.originals.keys) (at l.heap.now.terms l.fn.term)))) (reverse (map (at l.heap.now.terms) l.work.items)))
      ≡ heads (apply (numbered_from 0 (variables_after (numbers_of l.fn.originals.keys) (at l.heap.now.terms l.fn.term))) (at l.heap.now.terms l.fn.term));
  met : Written (length l.fn.originals.keys) l.pattern.items (length l.originals.keys);
}

abbrev pub decreases-loop-id : goal.decreases-loop-id
decreases-loop-id l = sum_by size (map (at l.heap.now.terms) l.work.items)
