use Rattle.spec_projection.proofs.Decision.{decided}
use Rattle.spec_projection.proofs.Fixing.{follows_or_breaks, fixed_or_not, all_fixed}
use Rattle.spec_projection.proofs.decided.constraints_are_decided.Goals as goal

pub returns : goal.returns
returns c = record { solvable = decided; follows = follows_or_breaks; fixed = fixed_or_not; all_fixed = all_fixed }
