use Rattle.std.proofs.Common.{ap}
use Rattle.cq_settle.specs.Contents.{Contents}
use Rattle.spec_engine.specs.Cells.{Value}
use Rattle.cq_engine.proofs.events.engine.Engine.new.Goals as goal

pub returns-clause-idle : goal.returns-clause-idle
returns-clause-idle c = record {
  sound = c.in_ok-machine.ensures.sound;
  nothing = c.in_ok-machine.ensures.nothing;
  lists = ap (λ (v : Value Contents). v.1) c.in_ok-machine.ensures.now;
  choices = c.in_ok-machine.ensures.choices;
}

pub returns-clause-pivots : goal.returns-clause-pivots
returns-clause-pivots c = ap (λ (v : Value Contents). v.0.pivots) c.in_ok-machine.ensures.now
