-- The inequalities so far are counted.
use Rattle.std.proofs.Common.{◌≡◌, ◌≤◌, length, take}
use Rattle.spec_projection.specs.Projection.{inequalities_of}
use Rattle.cq_store.proofs.budgets.count_inequalities.Given as goal

abbrev pub invariant-loop-c : goal.invariant-loop-c
invariant-loop-c l = (l.count ≡ length (inequalities_of (take l.c-index l.told))) × (l.count ≤ l.c-index)
