use Rattle.std.proofs.Common.{◌≡◌, ◌≤◌, ◌<◌, length}
use Rattle.std.specs.Prelude.{None}
use Rattle.cq_branch.specs.Stops.{ComesOn, still_waiting}
use Rattle.cq_control.specs.Open.{AreMarked}
use Rattle.cq_branch.specs.Choices.{AreOpen}
use Rattle.cq_branch.specs.Lists.{KeepsLists}
use Rattle.cq_branch.specs.Worlds.{saved_values, value}
use Rattle.cq_settle.specs.Worlds.{now_of}
use Rattle.cq_calls.specs.Trying.{IsNext, KeepsOthers}
use Rattle.cq_calls.proofs.trying.try_from.Given as goal

abbrev pub invariant-clauses : goal.invariant-clauses
invariant-clauses l =
    record {
      next : IsNext l.fn.clauses l.goal l.number l.left l.rest (saved_values l.world.first l.world.second.saved) l.choices (value l.world.first l.world.second.now);
      known : l.number < length l.fn.clauses.contents;
      others : KeepsOthers l.fn.choices l.choices;
      marked : AreMarked (saved_values l.world.first l.world.second.saved) l.choices;
      are_open : AreOpen l.fn.atoms l.fn.clauses (saved_values l.fn.world.first l.fn.world.second.saved) l.fn.choices
          → AreOpen l.fn.atoms l.fn.clauses (saved_values l.world.first l.world.second.saved) l.choices;
      comes : ComesOn l.fn.atoms l.fn.clauses l.fn.world.first l.fn.world.second l.fn.choices l.world.first l.world.second l.choices None;
      waiting : still_waiting l.fn.atoms l.fn.clauses l.world.first l.world.second l.choices ≤ still_waiting l.fn.atoms l.fn.clauses l.fn.world.first l.fn.world.second l.fn.choices;
      budget : l.world.first.store.pivots ≡ l.fn.world.first.store.pivots;
      world : now_of l.world.first ≡ now_of l.fn.world.first;
      lists : KeepsLists l.fn.world.second.now l.world.second.now;
    }

abbrev pub decreases-clauses : goal.decreases-clauses
decreases-clauses l = still_waiting l.fn.atoms l.fn.clauses l.world.first l.world.second l.choices
