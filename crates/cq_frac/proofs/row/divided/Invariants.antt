use Rattle.std.proofs.Common.{◌≡◌, take}
use Rattle.cq_frac.specs.Rows.{over, NoQuotientPair}
use Rattle.cq_frac.proofs.row.divided.Given as goal

abbrev pub invariant-loop-m : goal.invariant-loop-m
invariant-loop-m l = record {
  value : l.quotients.items ≡ over l.divisor (take l.m-index l.row);
  accepted : NoQuotientPair (take l.m-index l.row) l.divisor;
}
