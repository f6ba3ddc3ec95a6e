use Rattle.cq_elimination.proofs.Bounding.{StandApart}
use Rattle.cq_elimination.proofs.apart.stand_apart.Given as goal

abbrev pub invariant-rows : goal.invariant-rows
invariant-rows l = StandApart l.rows l.beside l.at
