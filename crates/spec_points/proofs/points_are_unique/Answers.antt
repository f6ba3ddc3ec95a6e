use Rattle.spec_points.proofs.Unique.{unique, all_alike}
use Rattle.spec_points.proofs.points_are_unique.Goals as goal

pub returns : goal.returns
returns c = record { unsolved = unique; all = all_alike }
