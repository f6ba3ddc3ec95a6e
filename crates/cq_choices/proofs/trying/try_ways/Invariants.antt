use Rattle.std.proofs.Common.{◌≡◌, ◌<◌, length, None}
use Rattle.spec_numbers.specs.Prefixes.{IsPrefix}
use Rattle.cq_choices.specs.Held.{held, open_of, HasMarks, StaysOver}
use Rattle.cq_choices.specs.Trying.{IsWays, IsSearching, ComesOver, newest_count}
use Rattle.cq_choices.proofs.trying.try_ways.Given as goal

abbrev pub invariant-ways : goal.invariant-ways
invariant-ways l =
    record {
      marked : HasMarks (held l.atoms l.world.first l.world.second l.choices);
      newest : IsWays l.choices;
      works : IsSearching (held l.atoms l.world.first l.world.second l.choices);
      known : l.known < length l.atoms;
      comes : ComesOver (held l.fn.atoms l.fn.world.first l.fn.world.second l.fn.choices) (held l.atoms l.world.first l.world.second l.choices) None;
      over : StaysOver (held l.fn.atoms l.fn.world.first l.fn.world.second l.fn.choices) (held l.atoms l.world.first l.world.second l.choices);
      longer : IsPrefix l.fn.atoms l.atoms;
      same : length l.choices ≡ length l.fn.choices;
      budget : l.world.first.store.pivots ≡ l.fn.world.first.store.pivots;
    }

abbrev pub decreases-ways : goal.decreases-ways
decreases-ways l = newest_count l.atoms (open_of (held l.atoms l.world.first l.world.second l.choices))
