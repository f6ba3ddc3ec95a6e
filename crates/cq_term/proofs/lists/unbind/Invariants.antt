use Rattle.std.proofs.Common.{◌≡◌, ◌≤◌, drop, length, take}
use Rattle.cq_term.specs.Layout.{AreNoted, restored}
use Rattle.cq_term.proofs.lists.unbind.Given as goal

abbrev pub invariant-loop-order : goal.invariant-loop-order
invariant-loop-order l =
    record {
      vars : restored l.cells (drop l.from l.order.items) l.vars.items ≡ restored l.cells (drop l.from l.fn.order.items) l.fn.vars.items;
      front : take l.from l.order.items ≡ take l.from l.fn.order.items;
      enough : l.from ≤ length l.order.items;
      noted : AreNoted l.cells (length l.vars.items) l.order.items;
    }

abbrev pub decreases-loop-order : goal.decreases-loop-order
decreases-loop-order l = goal.left-loop-order l
