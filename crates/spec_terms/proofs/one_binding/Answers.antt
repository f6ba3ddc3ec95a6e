use Rattle.spec_terms.proofs.Substitution.{apply-single_absent, apply-single_instance}
use Rattle.spec_terms.proofs.one_binding.Goals as goal

pub returns : goal.returns
returns g c = record { absent = apply-single_absent; instance = apply-single_instance }
