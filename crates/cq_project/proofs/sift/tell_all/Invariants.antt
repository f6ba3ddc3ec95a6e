use Rattle.std.proofs.Common.{◌≡◌, ◌++◌, take}
use Rattle.cq_project.proofs.sift.tell_all.Given as goal

abbrev pub invariant-rows : goal.invariant-rows
invariant-rows l = record {
  told : l.store.told ≡ l.fn.store.told ++ take l.row-index l.rows;
  saved : l.store.saved ≡ l.fn.store.saved;
  pivots : l.store.pivots ≡ l.fn.store.pivots;
}
