use Rattle.spec_linear.proofs.Reached.{one_supremum, never_both, supremum_alike, unbounded_alike}
use Rattle.spec_linear.proofs.extremes.extremes.Goals as goal

pub returns : goal.returns
returns c = record { one = one_supremum; never_both = never_both; alike = supremum_alike; unbounded = unbounded_alike }
