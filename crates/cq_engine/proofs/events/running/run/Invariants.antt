use Rattle.std.proofs.Common.{◌-◌, ◌≤◌}
use Rattle.cq_engine.specs.Events.{IsRunning, GoesOn, Keeps}
use Rattle.cq_engine.proofs.events.running.run.Given as goal

abbrev pub invariant-calls : goal.invariant-calls
invariant-calls l = record {
  running : IsRunning l.e;
  goes : GoesOn l.fn.e l.e;
  counted : l.fn.e.selected ≤ l.e.selected;
  keeps : Keeps l.fn.e l.e;
}

abbrev pub decreases-calls : goal.decreases-calls
decreases-calls l = l.e.steps - l.e.selected
