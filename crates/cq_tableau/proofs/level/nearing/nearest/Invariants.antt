-- By what was found so far the row comes nearer.
use Rattle.std.specs.Prelude.{IfSome}
use Rattle.cq_tableau.specs.Levelled.{IsNearing}
use Rattle.cq_tableau.proofs.level.nearing.nearest.Given as goal

abbrev pub invariant-loop-m : goal.invariant-loop-m
invariant-loop-m l = IfSome l.best (λ r. IsNearing l.dict.roles l.dict.restricted l.q l.up r.leaving r.entering)
