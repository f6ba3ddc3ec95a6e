use Rattle.std.proofs.Common.{◌≡◌}
use Rattle.spec_numbers.specs.Prefixes.{IsPrefix}
use Rattle.cq_term.specs.Texts.{AreDifferent}
use Rattle.cq_branch.specs.Stops.{waiting_in}
use Rattle.cq_catch.specs.Matching.{Reaches}
use Rattle.cq_choices.specs.Held.{held, HasMarks, IsOver, stack_of}
use Rattle.cq_catch.proofs.find.find.Given as goal

abbrev pub invariant-choices : goal.invariant-choices
invariant-choices l =
    record {
      different : AreDifferent l.atoms;
      over : IsOver l.clauses (held l.atoms l.world.first l.world.second l.choices);
      marked : HasMarks (held l.atoms l.world.first l.world.second l.choices);
      comes : Reaches l.fn.clauses (held l.fn.atoms l.fn.world.first l.fn.world.second l.fn.choices) l.fn.start
          l.clauses (held l.atoms l.world.first l.world.second l.choices) l.current;
      longer : IsPrefix l.fn.atoms l.atoms;
      budget : l.world.first.store.pivots ≡ l.fn.world.first.store.pivots;
    }

abbrev pub decreases-choices : goal.decreases-choices
decreases-choices l = waiting_in (stack_of l.clauses (held l.atoms l.world.first l.world.second l.choices))
