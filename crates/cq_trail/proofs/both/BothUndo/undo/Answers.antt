use Rattle.std.proofs.Common.{arith}
use Rattle.std.proofs.lemmas.Slice.Zip.{length-zip}
use Rattle.cq_trail.proofs.Zip.{zip-take, zip_at}
use Rattle.cq_trail.proofs.both.BothUndo.undo.Goals as goal

pub undo-requires : goal.undo-requires
undo-requires g c = omega (arith, rw length-zip at c.requires, c.args.self.now.together)

pub undo-requires-2 : goal.undo-requires-2
undo-requires-2 g c = omega (arith, rw length-zip at c.requires, c.args.self.now.together)

pub returns-clause-now : goal.returns-clause-now
returns-clause-now g c = zip_at _ _ c.args.m.number _ _ c.undo.ensures.now c.undo-2.ensures.now

pub returns-clause-saved : goal.returns-clause-saved
returns-clause-saved g c = rw (c.undo.ensures.saved, c.undo-2.ensures.saved) (zip-take c.args.m.number _ _)

pub returns-clause-room : goal.returns-clause-room
returns-clause-room g c = rw length-zip (omega (arith, c.undo.ensures.room, c.undo-2.ensures.room, c.args.self.now.together))
