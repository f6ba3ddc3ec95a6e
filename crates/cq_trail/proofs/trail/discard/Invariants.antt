use Rattle.std.proofs.Common.{◌≡◌, length}
use Rattle.cq_trail.specs.Log.{restore, old_stamps}
use Rattle.cq_trail.proofs.Stamps.{EntriesWithin}
use Rattle.cq_trail.proofs.trail.discard.Given as goal

abbrev pub invariant-loop-entry : goal.invariant-loop-entry
invariant-loop-entry g l =
    record {
      stamps : restore (old_stamps l.log.items) l.stamps.items ≡ restore (old_stamps l.fn.log.items) l.fn.stamps.items;
      within : EntriesWithin (length l.stamps.items) l.log.items;
    }

abbrev pub decreases-loop-entry : goal.decreases-loop-entry
decreases-loop-entry g l = goal.left-loop-entry g l
