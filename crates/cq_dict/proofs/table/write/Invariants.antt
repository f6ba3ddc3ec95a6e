use Rattle.std.proofs.Common.{◌≡◌, ◌≤◌, length}
use Rattle.cq_dict.proofs.Written.{Writing}
use Rattle.cq_dict.proofs.table.write.Given as goal

abbrev pub invariant-loop-at : goal.invariant-loop-at
invariant-loop-at l = record {
  writing : Writing l.fn.roles.now l.fn.changes.items l.changes.items l.roles.now;
  prepared : length l.changes.items ≤ l.roles.saves;
  saved : l.roles.saved ≡ l.fn.roles.saved;
  room : l.fn.roles.room ≤ l.roles.room;
}

abbrev pub decreases-loop-at : goal.decreases-loop-at
decreases-loop-at l = length l.changes.items
