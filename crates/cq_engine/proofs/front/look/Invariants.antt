use Rattle.std.proofs.Common.{◌≡◌}
use Rattle.cq_engine.specs.Fronts.{left_on}
use Rattle.cq_engine.specs.Seeking.{IsKept, IsGoing, GoesTo, KeepsNames}
use Rattle.cq_engine.proofs.front.look.Given as goal

abbrev pub invariant-marks : goal.invariant-marks
invariant-marks l = record {
  kept : IsKept l.m;
  works : IsGoing l.m l.current;
  goes : GoesTo l.fn.m l.fn.current l.m l.current;
  program : KeepsNames l.fn.m l.m;
  budget : l.m.world.first.store.pivots ≡ l.fn.m.world.first.store.pivots;
}

abbrev pub decreases-marks : goal.decreases-marks
decreases-marks l = left_on l.m l.current
