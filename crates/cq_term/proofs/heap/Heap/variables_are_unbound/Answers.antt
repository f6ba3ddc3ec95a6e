use Rattle.cq_term.specs.Layout.{contents, all_built, homes, bindings}
use Rattle.cq_term.proofs.Kept.{inside_free}
use Rattle.cq_term.proofs.heap.Heap.variables_are_unbound.Goals as goal

pub returns : goal.returns
returns c = rw (← c.self.view_is) (inside_free (all_built (contents c.self.inside.lists)) (homes (contents c.self.inside.lists)) (bindings (contents c.self.inside.lists)) c.self.invariant.now.heap)
