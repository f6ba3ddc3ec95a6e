use Rattle.spec_terms.proofs.Listed.{occurs_listed, listed_occurs, listed_once}
use Rattle.spec_terms.proofs.listed_variables.Goals as goal

pub returns : goal.returns
returns g c = record { listed = λ t v. (listed_occurs t v, occurs_listed t v); once = listed_once }
