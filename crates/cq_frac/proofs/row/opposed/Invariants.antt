use Rattle.std.proofs.Common.{◌≡◌, take}
use Rattle.cq_frac.specs.Rows.{negated}
use Rattle.cq_frac.proofs.row.opposed.Given as goal

abbrev pub invariant-loop-m : goal.invariant-loop-m
invariant-loop-m l = l.opposite.items ≡ negated (take l.m-index l.row)
