use Rattle.std.proofs.Common.{◌≡◌, take}
use Rattle.cq_project.specs.Disclosing.{Discloses}
use Rattle.cq_project.proofs.reduce.disclosed_rows.Given as goal

abbrev pub invariant-rows : goal.invariant-rows
invariant-rows l = record {
  disclosed : Discloses l.rows (take l.row-index l.rows) l.all.items;
  told : l.store.told ≡ l.rows;
  pivots : l.store.pivots ≡ l.fn.store.pivots;
}
