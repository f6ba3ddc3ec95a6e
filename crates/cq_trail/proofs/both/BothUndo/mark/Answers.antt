use Rattle.std.proofs.Common.{arith}
use Rattle.std.proofs.lemmas.Slice.Zip.{length-zip}
use Rattle.cq_trail.proofs.Zip.{zip-push}
use Rattle.cq_trail.proofs.both.BothUndo.mark.Goals as goal

pub returns-in-Ok-clause-mark : goal.returns-in-Ok-clause-mark
returns-in-Ok-clause-mark g c = rw length-zip (omega (arith, c.in_ok-m.ensures.mark, c.args.self.now.together))

pub returns-in-Ok-clause-saved : goal.returns-in-Ok-clause-saved
returns-in-Ok-clause-saved g c = rw (c.in_ok-m.ensures.saved, c.in-Ok.ensures.saved) (zip-push _ _ _ _ c.args.self.now.together)
