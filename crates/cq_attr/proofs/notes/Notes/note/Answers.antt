use Rattle.std.proofs.Common.{◌<◌, refl, length}
use Rattle.std.proofs.lemmas.List.{length-map}
use Rattle.std.proofs.lemmas.Option.{slice_get_read}
use Rattle.cq_attr.proofs.Linked.{note_at}
use Rattle.cq_attr.proofs.notes.Notes.note.Goals as goal

pub returns : goal.returns
returns g c =
    let ns = c.self.inside.notes.items in
    let within : c.args.at < length ns = rw length-map at (rw (← c.self.view_is) at c.requires) in
    rw (← c.self.view_is) (note_at c.self.inside.newest.items ns c.args.at c.index-note.result.now c.self.invariant.linked
    (slice_get_read ns (length ns) c.args.at c.index-note.result.now refl within c.index-note.ensures))
