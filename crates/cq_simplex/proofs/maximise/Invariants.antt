use Rattle.cq_simplex.proofs.Going.{Going}
use Rattle.cq_simplex.proofs.maximise.Given as goal

abbrev pub invariant-loop : goal.invariant-loop
invariant-loop l = Going l.fn.row l.counter l.fn.dict l.dict
