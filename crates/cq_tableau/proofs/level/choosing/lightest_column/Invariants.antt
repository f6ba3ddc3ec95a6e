-- Of the columns so far the first that stands in the fewest rows.
use Rattle.std.proofs.Common.{take}
use Rattle.cq_tableau.proofs.Lights.{AreLightest}
use Rattle.cq_tableau.proofs.level.choosing.lightest_column.Given as goal

abbrev pub invariant-loop-m : goal.invariant-loop-m
invariant-loop-m l = AreLightest l.dict.roles l.dict.restricted (take l.m-index l.m-items) l.found
