use Rattle.cq_term.specs.Layout.{contents}
use Rattle.cq_term.proofs.Images.{names_of_terms, names_of_marks}
use Rattle.cq_term.proofs.heap.Heap.names_are_of_terms.Goals as goal

pub returns : goal.returns
returns c = record {
  now = rw (← c.self.view_is) (names_of_terms (contents c.self.inside.lists) c.self.invariant.now);
  saved = rw (← c.self.view_is) (names_of_marks (contents c.self.inside.lists) c.self.inside.marks.items c.self.invariant);
}
