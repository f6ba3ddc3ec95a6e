-- The restricted ones of the quantities so far are live.
use Rattle.std.proofs.Common.{◌≡◌, ◌≤◌}
use Rattle.cq_tableau.specs.Restored.{Restores, NoneBelow}
use Rattle.cq_tableau.proofs.restoring.restore_all.Given as goal

abbrev pub invariant-loop-q : goal.invariant-loop-q
invariant-loop-q l = record {
  restored : Restores l.fn.dict.restricted l.fn.dict.roles l.dict.roles;
  none : NoneBelow l.fn.dict.restricted l.q l.dict.roles;
  flags : l.dict.restricted ≡ l.fn.dict.restricted;
  saved : l.dict.saved ≡ l.fn.dict.saved;
  room : l.fn.dict.room ≤ l.dict.room;
}
