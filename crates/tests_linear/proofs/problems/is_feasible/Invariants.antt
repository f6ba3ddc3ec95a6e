use Rattle.std.proofs.Common.{ℕ, ◌<◌}
use Rattle.cq_dict.specs.Roles.{is_restricted}
use Rattle.cq_simplex.specs.Checked.{IsRowFeasible}
use Rattle.cq_simplex.specs.Dictionary.{dictionary}
use Rattle.tests_linear.proofs.problems.is_feasible.Given as goal

abbrev pub invariant-loop-q : goal.invariant-loop-q
invariant-loop-q l = (asked q : ℕ) → q < l.q → IsRowFeasible (is_restricted l.dict.restricted) (dictionary l.dict.roles asked) q
