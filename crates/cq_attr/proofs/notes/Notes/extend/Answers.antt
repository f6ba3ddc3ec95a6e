use Rattle.cq_attr.specs.NotesValue.{noted}
use Rattle.cq_attr.proofs.Linked.{firsts_kept}
use Rattle.cq_attr.proofs.notes.Notes.extend.Goals as goal

pub returns-clause-saved : goal.returns-clause-saved
returns-clause-saved g c =
    rw (← c.self.view_is)
    (firsts_kept c.self.inside.notes.items c.link.new.notes.items c.self.inside.marks.items (noted c.args.variables.now c.args.value) c.self.invariant.within (rw c.reserve.ensures.items at c.link.ensures.pairs))
