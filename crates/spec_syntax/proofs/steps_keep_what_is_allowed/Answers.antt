use Rattle.spec_syntax.proofs.Steps.{step_to, step_back}
use Rattle.spec_syntax.proofs.steps_keep_what_is_allowed.Goals as goal

pub returns : goal.returns
returns c ops s tok ts t = (step_to ops s tok ts t, step_back ops s tok ts t)
