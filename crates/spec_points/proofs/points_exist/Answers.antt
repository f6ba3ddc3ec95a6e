use Rattle.spec_points.proofs.Chosen.{some_chosen}
use Rattle.spec_points.proofs.Exists.{a_point}
use Rattle.spec_points.proofs.points_exist.Goals as goal

pub returns : goal.returns
returns c = record { value = some_chosen; point = a_point }
