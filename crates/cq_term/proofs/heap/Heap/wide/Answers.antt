use Rattle.std.proofs.Common.{◌∙◌}
use Rattle.cq_term.specs.Layout.{contents}
use Rattle.cq_term.proofs.Cells.{length-meant}
use Rattle.cq_term.proofs.Marks.{adds_wide}
use Rattle.cq_term.proofs.heap.Heap.wide.Goals as goal

pub invariant_of-self-2 : goal.invariant_of-self-2
invariant_of-self-2 c = rw (c.push-2.ensures.items, c.unwrap.ensures, c.in_ok-push.ensures.items, c.in_ok-reserve.ensures.items, c.len-place.ensures, c.self.inside.lists.wide.ok.0) (adds_wide (contents c.self.inside.lists) c.self.inside.marks.items c.self.invariant c.args.number).marked

pub returns-clause-id : goal.returns-clause-id
returns-clause-id c = rw (← c.self.view_is, length-meant (contents c.self.inside.lists)) (c.new.ensures ∙ c.len-id.ensures ∙ c.self.inside.lists.cells.ok.0)

pub returns-clause-terms : goal.returns-clause-terms
returns-clause-terms c = rw (← c.self.view_is, c.push-2.ensures.items, c.unwrap.ensures, c.in_ok-push.ensures.items, c.in_ok-reserve.ensures.items, c.len-place.ensures, c.self.inside.lists.wide.ok.0) (adds_wide (contents c.self.inside.lists) c.self.inside.marks.items c.self.invariant c.args.number).terms

pub returns-clause-images : goal.returns-clause-images
returns-clause-images c = rw (← c.self.view_is, c.push-2.ensures.items, c.unwrap.ensures, c.in_ok-push.ensures.items, c.in_ok-reserve.ensures.items, c.len-place.ensures, c.self.inside.lists.wide.ok.0) (adds_wide (contents c.self.inside.lists) c.self.inside.marks.items c.self.invariant c.args.number).images

pub returns-clause-saved : goal.returns-clause-saved
returns-clause-saved c = rw (← c.self.view_is, c.push-2.ensures.items, c.unwrap.ensures, c.in_ok-push.ensures.items, c.in_ok-reserve.ensures.items, c.len-place.ensures, c.self.inside.lists.wide.ok.0) (adds_wide (contents c.self.inside.lists) c.self.inside.marks.items c.self.invariant c.args.number).saved
