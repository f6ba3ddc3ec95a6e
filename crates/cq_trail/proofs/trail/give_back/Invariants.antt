use Rattle.std.proofs.Common.{◌≡◌, ◌≤◌, drop, length, take}
use Rattle.cq_trail.specs.Log.{restore, old_values, old_stamps}
use Rattle.cq_trail.proofs.Stamps.{EntriesWithin}
use Rattle.cq_trail.proofs.trail.give_back.Given as goal

abbrev pub invariant-loop-log : goal.invariant-loop-log
invariant-loop-log g l =
    record {
      values : restore (drop l.from (old_values l.log.items)) l.items.items ≡ restore (drop l.from (old_values l.fn.log.items)) l.fn.items.items;
      stamps : restore (drop l.from (old_stamps l.log.items)) l.stamps.items ≡ restore (drop l.from (old_stamps l.fn.log.items)) l.fn.stamps.items;
      front : take l.from l.log.items ≡ take l.from l.fn.log.items;
      enough : l.from ≤ length l.log.items;
      within : EntriesWithin (length l.items.items) l.log.items;
      stamped : length l.stamps.items ≡ length l.items.items;
    }

abbrev pub decreases-loop-log : goal.decreases-loop-log
decreases-loop-log g l = goal.left-loop-log g l
