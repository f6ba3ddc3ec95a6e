use Rattle.std.proofs.Common.{◌∷◌, ap, ◌∙◌}
use Rattle.cq_control.specs.Items.{items_at}
use Rattle.spec_engine.specs.declared.machine.cell.Cell.{Cell}
use Rattle.cq_engine.proofs.InFront.{at_k}
use Rattle.cq_engine.proofs.Turned.{goes_at_once}
use Rattle.cq_engine.proofs.events.running.run_once.Goals as goal

pub first-requires : goal.first-requires
first-requires c = (at_k c.args.e.now c.in-Some.k c.in-Some.is c.requires.search c.requires.stands).current.3.there

pub run_goal-requires-clause-front : goal.run_goal-requires-clause-front
run_goal-requires-clause-front c =
    let m = c.args.e.now.machine in
    record {
      k = c.in-Some.k;
      current = c.in-Some.is;
      front = record {
        earlier = c.in-Some-first.ensures.earlier;
        cells = c.in-Some-first.ensures.some ∙ ap (λ (x : Cell). x ∷ items_at m.world.second.now c.in-Some-first.rest) c.in-Goal.is;
      };
    }

pub returns-in_default-clause-goes : goal.returns-in_default-clause-goes
returns-in_default-clause-goes c = let e = c.args.e.now in goes_at_once e e (λ s j. j)

pub returns-in_default-first-clause-goes : goal.returns-in_default-first-clause-goes
returns-in_default-first-clause-goes c = let e = c.args.e.now in goes_at_once e e (λ s j. j)

pub returns-then-e-clause-goes : goal.returns-then-e-clause-goes
returns-then-e-clause-goes c = let e = c.args.e.now in goes_at_once e e (λ s j. j)

pub returns-in_default-cell-clause-goes : goal.returns-in_default-cell-clause-goes
returns-in_default-cell-clause-goes c = let e = c.args.e.now in goes_at_once e e (λ s j. j)
