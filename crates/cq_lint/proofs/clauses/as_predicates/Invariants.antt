use Rattle.std.proofs.Common.{◌≡◌, take, map}
use Rattle.cq_built.specs.Errors.{indicator_of}
use Rattle.cq_lint.proofs.clauses.as_predicates.Given as goal

abbrev pub invariant-loop-pred : goal.invariant-loop-pred
invariant-loop-pred l = l.predicates.items ≡ map (indicator_of l.atoms) (take l.pred-index l.found)
