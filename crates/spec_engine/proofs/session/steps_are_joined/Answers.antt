use Rattle.spec_engine.proofs.Joined.{joined}
use Rattle.spec_engine.proofs.session.steps_are_joined.Goals as goal

pub returns : goal.returns
returns c = joined
