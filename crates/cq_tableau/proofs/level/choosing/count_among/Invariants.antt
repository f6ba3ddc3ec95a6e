-- The touched rows so far are counted.
use Rattle.std.proofs.Common.{◌≤◌}
use Rattle.cq_tableau.proofs.Counts.{IsCounted}
use Rattle.cq_tableau.proofs.level.choosing.count_among.Given as goal

abbrev pub invariant-loop-q : goal.invariant-loop-q
invariant-loop-q l = IsCounted l.dict.roles l.c l.touched l.q-index l.rows × (l.rows ≤ l.q-index)
