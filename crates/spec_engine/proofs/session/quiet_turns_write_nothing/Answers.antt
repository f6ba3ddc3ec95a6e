use Rattle.spec_engine.proofs.Told.{quiet}
use Rattle.spec_engine.proofs.session.quiet_turns_write_nothing.Goals as goal

pub returns : goal.returns
returns c = quiet
