use Rattle.std.proofs.Common.{◌≡◌, ◌≤◌, drop, length, take}
use Rattle.cq_term.specs.Layout.{AreLearnt, forgotten}
use Rattle.cq_term.proofs.lists.unlearn.Given as goal

abbrev pub invariant-loop-learnt : goal.invariant-loop-learnt
invariant-loop-learnt l =
    record {
      cells : forgotten l.cells.items (drop l.from l.learnt.items) ≡ forgotten l.fn.cells.items (drop l.from l.fn.learnt.items);
      front : take l.from l.learnt.items ≡ take l.from l.fn.learnt.items;
      enough : l.from ≤ length l.learnt.items;
      there : AreLearnt (length l.cells.items) l.learnt.items;
    }

abbrev pub decreases-loop-learnt : goal.decreases-loop-learnt
decreases-loop-learnt l = goal.left-loop-learnt l
