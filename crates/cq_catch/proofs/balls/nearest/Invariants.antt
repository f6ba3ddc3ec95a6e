use Rattle.std.proofs.Common.{◌≡◌, ◌<◌, length}
use Rattle.cq_control.specs.Items.{items_at}
use Rattle.spec_engine.specs.Cells.{nearest_catch}
use Rattle.cq_catch.proofs.balls.nearest.Given as goal

abbrev pub invariant-cells : goal.invariant-cells
invariant-cells l = record {
  there : l.next < length l.lists.now;
  same : nearest_catch (items_at l.lists.now l.fn.from) ≡ nearest_catch (items_at l.lists.now l.next);
}

abbrev pub decreases-cells : goal.decreases-cells
decreases-cells l = l.next
