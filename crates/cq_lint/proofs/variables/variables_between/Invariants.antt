use Rattle.std.proofs.Common.{◌≤◌, ◌++◌, ◌-◌, List, length}
use Rattle.cq_lint.specs.Named.{Named}
use Rattle.cq_lint.specs.Variables.{AreVariables}
use Rattle.cq_lint.proofs.variables.variables_between.Given as goal

abbrev pub invariant-loop-at : goal.invariant-loop-at
invariant-loop-at l = record {
  within : l.at ≤ length l.text;
  same : (vs : List Named) → AreVariables l.text l.to l.at vs → AreVariables l.text l.to l.from (l.found.items ++ vs);
}

abbrev pub decreases-loop-at : goal.decreases-loop-at
decreases-loop-at l = length l.text - l.at
