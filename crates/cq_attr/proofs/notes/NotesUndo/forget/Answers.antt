use Rattle.std.proofs.Common.{sym}
use Rattle.std.specs.List.{take-map}
use Rattle.cq_attr.specs.Chains.{first_pairs}
use Rattle.cq_attr.proofs.notes.NotesUndo.forget.Goals as goal

pub returns-clause-saved : goal.returns-clause-saved
returns-clause-saved g c = rw (← c.self.view_is, c.truncate.ensures.items) (sym (take-map (first_pairs c.self.inside.notes.items) c.args.m.number c.self.inside.marks.items))
