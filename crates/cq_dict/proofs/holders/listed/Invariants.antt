use Rattle.std.proofs.Common.{ℕ, ◌<◌, ◌≤◌, ◌⊎◌, length}
use Rattle.std.specs.List.{Contains}
use Rattle.cq_dict.specs.Holders.{IsOn, IsListed}
use Rattle.cq_dict.proofs.holders.listed.Given as goal

abbrev pub invariant-loop-list : goal.invariant-loop-list
invariant-loop-list l = record {
  there : l.list ≤ length l.cells;
  own : Contains l.rows.items l.column;
  within : (r : ℕ) → Contains l.rows.items r → r < l.count;
  all : (r : ℕ) → r < l.count → IsListed l.heads l.cells l.column r → Contains l.rows.items r ⊎ IsOn l.cells l.list r;
}

abbrev pub decreases-loop-list : goal.decreases-loop-list
decreases-loop-list l = l.list
