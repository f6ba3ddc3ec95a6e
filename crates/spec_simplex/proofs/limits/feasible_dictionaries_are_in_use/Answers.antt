use Rattle.spec_simplex.proofs.InUse.{feasible_in_use}
use Rattle.spec_simplex.proofs.limits.feasible_dictionaries_are_in_use.Goals as goal

pub returns : goal.returns
returns c = feasible_in_use
