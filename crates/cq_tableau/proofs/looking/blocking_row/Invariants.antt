-- The rows that are not on the rest of the list leave room.
use Rattle.std.proofs.Common.{◌≤◌, length}
use Rattle.cq_tableau.proofs.Blocking.{OthersLeave}
use Rattle.cq_tableau.proofs.looking.blocking_row.Given as goal

abbrev pub invariant-loop-list : goal.invariant-loop-list
invariant-loop-list l = record {
  there : l.list ≤ length l.lists.cells.now;
  others : OthersLeave l.dict.roles l.dict.restricted l.c l.lists.cells.now l.list;
}

abbrev pub decreases-loop-list : goal.decreases-loop-list
decreases-loop-list l = l.list
