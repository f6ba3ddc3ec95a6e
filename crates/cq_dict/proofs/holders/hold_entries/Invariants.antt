use Rattle.std.proofs.Common.{◌-◌, length, take}
use Rattle.cq_dict.proofs.Entries.{Holding}
use Rattle.cq_dict.proofs.holders.hold_entries.Given as goal

abbrev pub invariant-loop-m : goal.invariant-loop-m
invariant-loop-m l = Holding l.fn.heads l.fn.cells l.number (take l.m-index l.entries) l.heads l.cells

abbrev pub decreases-loop-at : goal.decreases-loop-at
decreases-loop-at l = length l.held - l.at
