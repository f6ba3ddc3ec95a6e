use Rattle.spec_terms.proofs.Substitution.{occurs_clash}
use Rattle.spec_terms.proofs.occurs_check.Goals as goal

pub returns : goal.returns
returns g c = occurs_clash
