use Rattle.spec_terms.proofs.Listed.{renamed_back, variables-renamed_from}
use Rattle.spec_terms.proofs.renamed_terms.Goals as goal

pub returns : goal.returns
returns g c = record { numbered = variables-renamed_from; back = renamed_back }
