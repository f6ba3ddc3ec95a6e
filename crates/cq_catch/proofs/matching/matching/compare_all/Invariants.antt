use Rattle.std.proofs.Common.{◌≡◌, ◌≤◌, ◌∷◌, List}
use Rattle.cq_control.specs.Open.{AreMarked}
use Rattle.std.specs.Prelude.{None}
use Rattle.cq_branch.specs.Stops.{ComesOn, still_waiting}
use Rattle.cq_branch.specs.Choices.{AreOpen}
use Rattle.cq_branch.specs.Worlds.{saved_values}
use Rattle.cq_branch.specs.declared.alternatives.Alternatives.{Alternatives}
use Rattle.cq_branch.specs.declared.alternatives.Alternatives.TheVariants.{Matches}
use Rattle.cq_catch.proofs.matching.matching.compare_all.Given as goal

abbrev pub invariant-clauses : goal.invariant-clauses
invariant-clauses l =
    record {
      newest : (c : Alternatives) × (older : List Alternatives) × (l.fn.choices ≡ c ∷ older) × (l.choices ≡ Matches l.asked l.walk l.removes l.rest ∷ older);
      marked : AreMarked (saved_values l.world.first l.world.second.saved) l.choices;
      are_open : AreOpen l.fn.atoms l.fn.clauses (saved_values l.world.first l.world.second.saved) l.choices;
      comes : ComesOn l.fn.atoms l.fn.clauses l.fn.world.first l.fn.world.second l.fn.choices l.world.first l.world.second l.choices None;
      waiting : still_waiting l.fn.atoms l.fn.clauses l.world.first l.world.second l.choices ≤ still_waiting l.fn.atoms l.fn.clauses l.fn.world.first l.fn.world.second l.fn.choices;
      budget : l.world.first.store.pivots ≡ l.fn.world.first.store.pivots;
    }

abbrev pub decreases-clauses : goal.decreases-clauses
decreases-clauses l = still_waiting l.fn.atoms l.fn.clauses l.world.first l.world.second l.choices
