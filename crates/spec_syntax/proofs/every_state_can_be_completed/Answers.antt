use Rattle.spec_syntax.proofs.Runs.{completes}
use Rattle.spec_syntax.proofs.every_state_can_be_completed.Goals as goal

pub returns : goal.returns
returns c ops s = completes ops s
