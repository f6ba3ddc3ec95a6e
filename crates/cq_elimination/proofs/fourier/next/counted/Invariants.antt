use Rattle.std.proofs.Common.{◌≡◌}
use Rattle.cq_elimination.proofs.Counting.{Counted}
use Rattle.cq_elimination.proofs.fourier.next.counted.Given as goal

abbrev pub invariant-rows : goal.invariant-rows
invariant-rows l = record {
  variable : l.own.variable ≡ l.variable;
  counted : Counted l.variable.0 l.rows l.row-index l.own.lower l.own.upper l.own.others;
}
