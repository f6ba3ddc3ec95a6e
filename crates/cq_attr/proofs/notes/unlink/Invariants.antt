use Rattle.std.proofs.Common.{◌≡◌, ◌≤◌, length, take}
use Rattle.cq_attr.specs.Chains.{AreLinked}
use Rattle.cq_attr.proofs.notes.unlink.Given as goal

abbrev pub invariant-loop-notes : goal.invariant-loop-notes
invariant-loop-notes g l = record {
  linked : AreLinked l.newest.items l.notes.items;
  enough : l.from ≤ length l.notes.items;
  front : take l.from l.notes.items ≡ take l.from l.fn.notes.items;
}

abbrev pub decreases-loop-notes : goal.decreases-loop-notes
decreases-loop-notes g l = goal.left-loop-notes g l
