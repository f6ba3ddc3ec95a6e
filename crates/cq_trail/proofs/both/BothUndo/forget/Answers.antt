use Rattle.std.proofs.Common.{arith}
use Rattle.std.proofs.lemmas.Slice.Zip.{length-zip}
use Rattle.cq_trail.proofs.Zip.{zip-take}
use Rattle.cq_trail.proofs.both.BothUndo.forget.Goals as goal

pub forget-requires : goal.forget-requires
forget-requires g c = omega (arith, rw length-zip at c.requires, c.args.self.now.together)

pub forget-requires-2 : goal.forget-requires-2
forget-requires-2 g c = omega (arith, rw length-zip at c.requires, c.args.self.now.together)

pub returns-clause-saved : goal.returns-clause-saved
returns-clause-saved g c = rw (c.forget.ensures.saved, c.forget-2.ensures.saved) (zip-take c.args.m.number _ _)

pub returns-clause-room : goal.returns-clause-room
returns-clause-room g c = rw length-zip (omega (arith, c.forget.ensures.room, c.forget-2.ensures.room, c.args.self.now.together))
