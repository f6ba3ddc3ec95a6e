use Rattle.spec_existence.proofs.Closing.{closure_exists}
use Rattle.spec_existence.proofs.settled.closures_exist.Goals as goal

pub returns : goal.returns
returns c = closure_exists
