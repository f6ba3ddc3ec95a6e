use Rattle.std.proofs.Common.{◌∙◌}
use Rattle.cq_term.specs.Layout.{contents}
use Rattle.cq_term.proofs.Marks.{marked_more, saved_more}
use Rattle.cq_term.proofs.heap.HeapUndo.mark.Goals as goal

pub invariant_of-self-2 : goal.invariant_of-self-2
invariant_of-self-2 c = rw c.in_ok-push.ensures.items (marked_more (contents c.self.inside.lists) c.self.inside.marks.items c.self.invariant (record { cells = c.len.result; wide = c.len-2.result; args = c.len-3.result; vars = c.len-4.result; order = c.len-5.result; learnt = c.len-6.result })
    (record {
      cells = c.len.ensures ∙ c.self.inside.lists.cells.ok.0;
      wide = c.len-2.ensures ∙ c.self.inside.lists.wide.ok.0;
      args = c.len-3.ensures ∙ c.self.inside.lists.args.ok.0;
      vars = c.len-4.ensures ∙ c.self.inside.lists.vars.ok.0;
      order = c.len-5.ensures ∙ c.self.inside.lists.order.ok.0;
      learnt = c.len-6.ensures ∙ c.self.inside.lists.learnt.ok.0;
    }))

pub returns-clause-saved : goal.returns-clause-saved
returns-clause-saved c = rw (← c.self.view_is, c.in_ok-push.ensures.items) (saved_more (contents c.self.inside.lists) c.self.inside.marks.items c.self.invariant (record { cells = c.len.result; wide = c.len-2.result; args = c.len-3.result; vars = c.len-4.result; order = c.len-5.result; learnt = c.len-6.result })
    (record {
      cells = c.len.ensures ∙ c.self.inside.lists.cells.ok.0;
      wide = c.len-2.ensures ∙ c.self.inside.lists.wide.ok.0;
      args = c.len-3.ensures ∙ c.self.inside.lists.args.ok.0;
      vars = c.len-4.ensures ∙ c.self.inside.lists.vars.ok.0;
      order = c.len-5.ensures ∙ c.self.inside.lists.order.ok.0;
      learnt = c.len-6.ensures ∙ c.self.inside.lists.learnt.ok.0;
    }))
