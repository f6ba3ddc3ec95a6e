use Rattle.std.proofs.Common.{◌≡◌}
use Rattle.spec_branch.specs.Expressions.{power}
use Rattle.cq_cexpr.proofs.operations.power.Given as goal

abbrev pub invariant-loop-factor : goal.invariant-loop-factor
invariant-loop-factor l = l.power ≡ power l.fn.base l._factor
