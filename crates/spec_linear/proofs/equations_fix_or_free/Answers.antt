use Rattle.spec_linear.proofs.Equations.{every_value}
use Rattle.spec_linear.proofs.equations_fix_or_free.Goals as goal

pub returns : goal.returns
returns c = every_value
