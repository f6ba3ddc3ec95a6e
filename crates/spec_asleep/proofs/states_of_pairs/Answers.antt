use Rattle.spec_terms.specs.Order.{compare_terms}
use Rattle.spec_terms.proofs.Orders.{compare_terms-equal, compare_terms-itself}
use Rattle.spec_syntax.specs.Trees.{Tree}
use Rattle.spec_asleep.proofs.States.{gone, apart, broken, waiting, itself}
use Rattle.spec_asleep.proofs.states_of_pairs.Goals as goal

pub returns-clause-gone : goal.returns-clause-gone
returns-clause-gone c = gone

pub returns-clause-apart : goal.returns-clause-apart
returns-clause-apart c = apart

pub returns-clause-waiting : goal.returns-clause-waiting
returns-clause-waiting c = waiting (λ t u. (compare_terms-equal t u, compare_terms-itself t u))

pub returns-clause-broken : goal.returns-clause-broken
returns-clause-broken c = broken (λ t u. (compare_terms-equal t u, compare_terms-itself t u))

pub returns-clause-same : goal.returns-clause-same
returns-clause-same c = itself (λ t u. (compare_terms-equal t u, compare_terms-itself t u))
