use Rattle.cq_term.proofs.Kept.{empty_meanings}
use Rattle.cq_term.proofs.Marks.{marked_new}
use Rattle.cq_term.proofs.heap.Heap.new.Goals as goal

pub invariant_of-result : goal.invariant_of-result
invariant_of-result c = rw (c.new.ensures.items, c.new-2.ensures.items, c.new-3.ensures.items, c.new-4.ensures.items, c.new-5.ensures.items, c.new-6.ensures.items, c.new-7.ensures.items) marked_new

pub returns-clause-terms : goal.returns-clause-terms
returns-clause-terms c = rw (c.new.ensures.items, c.new-5.ensures.items) empty_meanings
