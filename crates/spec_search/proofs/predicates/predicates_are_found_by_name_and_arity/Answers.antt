use Rattle.spec_search.proofs.Named.{once, named_arity}
use Rattle.spec_search.proofs.predicates.predicates_are_found_by_name_and_arity.Goals as goal

pub returns : goal.returns
returns c = record { once = once; arity = named_arity }
