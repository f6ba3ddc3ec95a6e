use Rattle.std.proofs.Common.{◌≡◌, ◌++◌, take}
use Rattle.std.specs.Prelude.{flat_map}
use Rattle.cq_lint.specs.Findings.{lone_if}
use Rattle.cq_lint.proofs.findings.add_lone.Given as goal

abbrev pub invariant-loop-variable : goal.invariant-loop-variable
invariant-loop-variable l =
    let vs = l.clause.variables.items in
    l.found.items ≡ l.initial.found.items ++ flat_map (lone_if vs) (take l.variable-index vs)
