use Rattle.std.proofs.Common.{◌++◌, refl}
use Rattle.spec_linear.proofs.echelon.last_rows_are_the_echelon_form.Goals as goal
use Rattle.spec_linear.proofs.Solving.{echelon, same-rows}

pub returns-clause-echelon : goal.returns-clause-echelon
returns-clause-echelon c front targets l solved s = echelon (front ++ targets) l solved s front targets refl

pub returns-clause-same : goal.returns-clause-same
returns-clause-same c front targets l solved s = same-rows (front ++ targets) l solved s front targets refl
