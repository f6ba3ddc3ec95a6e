use Rattle.spec_terms.proofs.Results.{stops}
use Rattle.spec_terms.proofs.arithmetic.stops_are_refusals.Goals as goal

pub returns : goal.returns
returns c = stops
