use Rattle.std.proofs.Common.{◌≡◌, ◌≤◌, take, length}
use Rattle.cq_lint.specs.Findings.{occurrences}
use Rattle.cq_lint.proofs.findings.occurrences.Given as goal

abbrev pub invariant-loop-variable : goal.invariant-loop-variable
invariant-loop-variable l = record {
  counted : l.count ≡ length (occurrences l.name (take l.variable-index l.variables));
  few : l.count ≤ l.variable-index;
}
