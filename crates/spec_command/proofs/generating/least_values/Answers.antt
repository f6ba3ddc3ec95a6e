use Rattle.std.proofs.Common.{refl}
use Rattle.spec_command.specs.Query.{gap}
use Rattle.spec_command.proofs.generating.least_values.Goals as goal

pub returns : goal.returns
unfolding gap
returns c = record { second = refl; seventh = refl; one = refl; seven = refl; ten = refl; fourteen = refl; two_hundred = refl }
