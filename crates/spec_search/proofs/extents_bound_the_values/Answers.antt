use Rattle.spec_search.proofs.AskedValues.{greatest_bounds, least_bounds, greatest_none, least_none}
use Rattle.spec_search.proofs.extents_bound_the_values.Goals as goal

pub returns : goal.returns
returns c = record { greatest = greatest_bounds; least = least_bounds; no_greatest = greatest_none; no_least = least_none }
