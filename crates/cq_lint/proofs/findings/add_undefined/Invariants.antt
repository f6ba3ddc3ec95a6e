use Rattle.std.proofs.Common.{◌≡◌, ◌++◌, take}
use Rattle.std.specs.Prelude.{flat_map}
use Rattle.cq_lint.specs.Findings.{undefined_if}
use Rattle.cq_lint.proofs.findings.add_undefined.Given as goal

abbrev pub invariant-loop-predicate : goal.invariant-loop-predicate
invariant-loop-predicate l = l.found.items ≡ l.initial.found.items ++ flat_map (undefined_if l.known l.clause.at) (take l.predicate-index l.clause.calls.items)
