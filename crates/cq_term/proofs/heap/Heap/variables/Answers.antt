use Rattle.std.proofs.Common.{◌∙◌}
use Rattle.std.proofs.lemmas.List.{length-map}
use Rattle.cq_term.specs.Layout.{contents}
use Rattle.cq_term.proofs.Notes.{length-homes}
use Rattle.cq_term.proofs.heap.Heap.variables.Goals as goal

pub returns : goal.returns
returns c = rw (← c.self.view_is, length-map, length-homes (contents c.self.inside.lists) c.self.invariant.now) (c.len.ensures ∙ c.self.inside.lists.vars.ok.0)
