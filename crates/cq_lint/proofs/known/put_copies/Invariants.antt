use Rattle.std.proofs.Common.{◌≡◌, take}
use Rattle.std.specs.Prelude.{fold}
use Rattle.cq_lint.specs.Predicates.{with}
use Rattle.cq_lint.proofs.known.put_copies.Given as goal

abbrev pub invariant-loop-predicate : goal.invariant-loop-predicate
invariant-loop-predicate l = l.predicates.items ≡ fold with l.initial.predicates.items (take l.predicate-index l.more)
