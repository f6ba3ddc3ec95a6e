use Rattle.spec_terms.specs.Variants.{AreVariants}
use Rattle.cq_term.specs.Meaning.{at}
use Rattle.cq_term.specs.Places.{numbers_of}
use Rattle.cq_term.proofs.SideBySide.{weight}
use Rattle.cq_unify.proofs.Ahead.{Remains}
use Rattle.cq_unify.proofs.Matches.{MatchAhead}
use Rattle.cq_unify.proofs.order.variants.variant_throughout.Given as goal

abbrev pub invariant-loop-pair : goal.invariant-loop-pair
invariant-loop-pair l = Remains l.heap.now.terms (AreVariants (at l.heap.now.terms l.fn.a) (at l.heap.now.terms l.fn.b)) (MatchAhead (numbers_of l.met.left.keys) (numbers_of l.met.right.keys)) l.work.items

abbrev pub decreases-loop-pair : goal.decreases-loop-pair
decreases-loop-pair l = weight l.heap.now.terms l.work.items
