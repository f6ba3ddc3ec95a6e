use Rattle.spec_search.proofs.PredicatesStepping.{called}
use Rattle.spec_search.proofs.predicates.calls_are_steps.Goals as goal

pub returns : goal.returns
returns c = λ p goal q e r o. called p goal q e r o
