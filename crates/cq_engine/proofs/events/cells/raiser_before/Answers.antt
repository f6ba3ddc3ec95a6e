use Rattle.cq_engine.proofs.Selections.{goal_here}
use Rattle.cq_engine.proofs.events.cells.raiser_before.Goals as goal

pub first-requires : goal.first-requires
first-requires c = c.requires.going.2.current.3.there

pub raiser_in-requires-clause-front : goal.raiser_in-requires-clause-front
raiser_in-requires-clause-front c = record { earlier = c.in-Some.ensures.earlier; cells = c.in-Some.ensures.some }

pub raiser_in-requires-clause-goal : goal.raiser_in-requires-clause-goal
raiser_in-requires-clause-goal c = goal_here c.args.m.now c.args.k c.in-Some.rest c.in-Some.cell c.requires.goal c.in-Some.ensures.some
