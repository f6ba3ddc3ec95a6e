use Rattle.spec_linear.proofs.Uniqueness.{unique_echelon}
use Rattle.spec_linear.proofs.echelon.echelon_forms_are_unique.Goals as goal

pub returns : goal.returns
returns c = unique_echelon
