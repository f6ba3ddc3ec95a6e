use Rattle.std.proofs.Common.{◌≡◌, ◌≤◌, take}
use Rattle.cq_settle.specs.Steps.{HaveJoined}
use Rattle.cq_settle.proofs.joining.join_rows.Given as goal

abbrev pub invariant-loop-row : goal.invariant-loop-row
invariant-loop-row l = record {
  joined : HaveJoined l.fn.store.told (take l.row-index l.rows) l.store.told l.fn.fixed.items l.fixed.items;
  saved : l.store.saved ≡ l.fn.store.saved;
  room : l.fn.store.room ≤ l.store.room;
  budget : l.store.pivots ≡ l.fn.store.pivots;
}
