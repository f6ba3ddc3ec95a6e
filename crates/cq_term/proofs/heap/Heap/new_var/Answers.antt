use Rattle.std.proofs.Common.{◌∙◌}
use Rattle.std.proofs.lemmas.List.{length-map}
use Rattle.cq_term.specs.Layout.{contents}
use Rattle.cq_term.proofs.Cells.{length-meant, meant_var, images_with_var}
use Rattle.cq_term.proofs.Notes.{length-homes}
use Rattle.cq_term.proofs.Marks.{marked_var, saved_var}
use Rattle.cq_term.proofs.heap.Heap.new_var.Goals as goal

pub invariant_of-self-2 : goal.invariant_of-self-2
invariant_of-self-2 c = simp (c.in_ok-push.ensures.items, c.push-2.ensures.items, c.unwrap.ensures, c.in_ok-reserve.ensures.items, c.new.ensures, c.len-id.ensures, c.len-variable.ensures, c.self.inside.lists.cells.ok.0, c.self.inside.lists.vars.ok.0) (marked_var (contents c.self.inside.lists) c.self.inside.marks.items c.self.invariant)

pub returns-clause-id : goal.returns-clause-id
returns-clause-id c = rw (← c.self.view_is, length-meant (contents c.self.inside.lists)) (c.new-2.ensures ∙ c.len-id.ensures ∙ c.self.inside.lists.cells.ok.0)

pub returns-clause-terms : goal.returns-clause-terms
returns-clause-terms c = simp (c.in_ok-push.ensures.items, c.push-2.ensures.items, c.unwrap.ensures, c.in_ok-reserve.ensures.items, c.new.ensures, c.len-id.ensures, c.len-variable.ensures, c.self.inside.lists.cells.ok.0, c.self.inside.lists.vars.ok.0) (rw (← c.self.view_is, length-map, length-homes (contents c.self.inside.lists) c.self.invariant.now) (meant_var (contents c.self.inside.lists) c.self.invariant.now))

pub returns-clause-images : goal.returns-clause-images
returns-clause-images c = simp (c.in_ok-push.ensures.items, c.push-2.ensures.items, c.unwrap.ensures, c.in_ok-reserve.ensures.items, c.new.ensures, c.len-id.ensures, c.len-variable.ensures, c.self.inside.lists.cells.ok.0, c.self.inside.lists.vars.ok.0) (rw (← c.self.view_is, length-map, length-homes (contents c.self.inside.lists) c.self.invariant.now) (images_with_var (contents c.self.inside.lists) c.self.invariant.now))

pub returns-clause-saved : goal.returns-clause-saved
returns-clause-saved c = simp (c.in_ok-push.ensures.items, c.push-2.ensures.items, c.unwrap.ensures, c.in_ok-reserve.ensures.items, c.new.ensures, c.len-id.ensures, c.len-variable.ensures, c.self.inside.lists.cells.ok.0, c.self.inside.lists.vars.ok.0) (rw (← c.self.view_is) (saved_var (contents c.self.inside.lists) c.self.inside.marks.items c.self.invariant))
