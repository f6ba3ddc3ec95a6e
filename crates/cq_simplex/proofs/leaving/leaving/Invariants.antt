-- Of the rows that are not on the rest of the list the one that limits the column first.
use Rattle.std.proofs.Common.{ℕ, ◌≤◌, length}
use Rattle.cq_dict.specs.Holders.{IsOn}
use Rattle.cq_dict.specs.Roles.{is_restricted}
use Rattle.cq_simplex.proofs.Ratios.{First}
use Rattle.cq_simplex.proofs.leaving.leaving.Given as goal

abbrev pub invariant-loop-list : goal.invariant-loop-list
invariant-loop-list l = record {
  there : l.list ≤ length l.lists.cells.now;
  first : (asked : ℕ) → First (is_restricted l.dict.restricted) l.dict.roles asked l.column (IsOn l.lists.cells.now l.list) l.first;
}

abbrev pub decreases-loop-list : goal.decreases-loop-list
decreases-loop-list l = l.list
