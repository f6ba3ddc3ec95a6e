use Rattle.std.proofs.Common.{◌≡◌, [], take}
use Rattle.cq_project.proofs.reduce.telling.holding.Given as goal

abbrev pub invariant-rows : goal.invariant-rows
invariant-rows l = record {
  told : l.store.told ≡ take l.row-index l.rows;
  saved : l.store.saved ≡ [];
  pivots : l.store.pivots ≡ l.fn.pivots;
}
