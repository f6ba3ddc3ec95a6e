use Rattle.spec_terms.specs.Order.{compare_terms}
use Rattle.spec_terms.proofs.Orders.{compare_terms-equal, compare_terms-itself}
use Rattle.spec_asleep.proofs.States.{decided}
use Rattle.spec_asleep.proofs.conditions.Goals as goal

pub returns-clause-decided : goal.returns-clause-decided
returns-clause-decided c = decided (λ t u. (compare_terms-equal t u, compare_terms-itself t u))
