use Rattle.std.proofs.Common.{◌-◌, ◌≤◌}
use Rattle.cq_engine.specs.Events.{IsRunning, GoesOn, Keeps}
use Rattle.cq_engine.proofs.events.engine.Engine.next.Given as goal

abbrev pub invariant-turns : goal.invariant-turns
invariant-turns l = record {
  running : IsRunning l.self;
  goes : GoesOn l.fn.self l.self;
  counted : l.fn.self.selected ≤ l.self.selected;
  keeps : Keeps l.fn.self l.self;
}

abbrev pub decreases-turns : goal.decreases-turns
decreases-turns l = l.self.steps - l.self.selected
