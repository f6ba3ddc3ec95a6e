use Rattle.spec_terms.proofs.Unifiers.{unifier_unique, unifier_idempotent}
use Rattle.spec_terms.proofs.one_unifier.Goals as goal

pub returns : goal.returns
returns g c = record { one = unifier_unique; idempotent = unifier_idempotent; never_both = λ es s is none. none s is.unifies }
