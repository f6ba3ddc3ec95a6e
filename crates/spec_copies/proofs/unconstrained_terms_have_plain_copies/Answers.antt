use Rattle.spec_copies.proofs.Plain.{plain, only_plain}
use Rattle.spec_copies.proofs.unconstrained_terms_have_plain_copies.Goals as goal

pub returns : goal.returns
returns c = record { plain = plain; only = only_plain }
