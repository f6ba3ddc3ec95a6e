use Rattle.std.proofs.Common.{◌≡◌, take}
use Rattle.cq_frac.specs.Rows.{others}
use Rattle.cq_frac.proofs.row.without.Given as goal

abbrev pub invariant-loop-m : goal.invariant-loop-m
invariant-loop-m l = l.rest.items ≡ others l.quantity (take l.m-index l.row)
