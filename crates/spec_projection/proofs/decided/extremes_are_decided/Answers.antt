use Rattle.spec_projection.proofs.Extent.{extent, extent_below, attained_or_not}
use Rattle.spec_projection.proofs.decided.extremes_are_decided.Goals as goal

pub returns : goal.returns
returns c = record { greatest = extent; least = extent_below; attained = attained_or_not }
