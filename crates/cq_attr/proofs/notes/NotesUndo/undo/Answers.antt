use Rattle.std.proofs.Common.{◌<◌, ◌∙◌, refl, ap, length, Some}
use Rattle.std.specs.List.{take-map}
use Rattle.std.specs.Option.{option_map}
use Rattle.std.proofs.lemmas.List.{length-map}
use Rattle.std.proofs.lemmas.Option.{slice_get_read, slice_get-map}
use Rattle.cq_attr.specs.Chains.{first_pairs}
use Rattle.cq_attr.specs.declared.notes.Note.{Note}
use Rattle.cq_attr.proofs.Linked.{firsts_undone}
use Rattle.cq_attr.proofs.notes.NotesUndo.undo.Goals as goal

pub returns-clause-now : goal.returns-clause-now
returns-clause-now g c =
    let ns = c.self.inside.notes.items in
    let marks = c.self.inside.marks.items in
    let within : c.args.m.number < length marks = rw length-map at (rw (← c.self.view_is) at c.requires) in
    let here = slice_get_read marks (length marks) c.args.m.number c.index.result.now refl within c.index.ensures in
    rw (← c.self.view_is, c.unlink.ensures.notes)
    (slice_get-map (first_pairs ns) marks c.args.m.number ∙ ap (option_map (first_pairs ns)) here ∙ ap (λ ps. Some ps) (take-map (λ (n : Note g.row.T.Denot). (n.variable, n.value)) c.index.result.now ns))

pub returns-clause-saved : goal.returns-clause-saved
returns-clause-saved g c =
    let marks = c.self.inside.marks.items in
    let within : c.args.m.number < length marks = rw length-map at (rw (← c.self.view_is) at c.requires) in
    let here = slice_get_read marks (length marks) c.args.m.number c.index.result.now refl within c.index.ensures in
    rw (← c.self.view_is, c.truncate.ensures.items, c.unlink.ensures.notes) (firsts_undone c.self.inside.notes.items marks c.args.m.number c.index.result.now c.self.invariant.sorted here)
