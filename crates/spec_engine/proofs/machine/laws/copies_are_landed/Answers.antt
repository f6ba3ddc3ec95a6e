use Rattle.spec_engine.proofs.Landed.{copies_landed}
use Rattle.spec_engine.proofs.machine.laws.copies_are_landed.Goals as goal

pub returns : goal.returns
returns c = copies_landed
