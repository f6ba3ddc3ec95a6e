use Rattle.spec_engine.proofs.Stand.{settled, ended}
use Rattle.spec_engine.proofs.session.readings_stand.Goals as goal

pub returns : goal.returns
returns c = record { settled = settled; ended = ended }
