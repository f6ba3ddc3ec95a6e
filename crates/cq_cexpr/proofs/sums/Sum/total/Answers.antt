use Rattle.std.proofs.Common.{subst}
use Rattle.cq_cexpr.specs.Overflows.{ComesFrom}
use Rattle.cq_cexpr.specs.Sums.{joining_operands}
use Rattle.cq_cexpr.proofs.sums.Sum.total.Goals as goal

pub returns-clause-overflow : goal.returns-clause-overflow
returns-clause-overflow c = λ pair e. subst (λ s. ComesFrom (joining_operands c.args.self.first s) pair) c.deref.ensures.value (c.by_variable.ensures.overflow pair e)
