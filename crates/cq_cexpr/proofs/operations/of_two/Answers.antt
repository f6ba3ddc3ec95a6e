use Rattle.std.proofs.Common.{Some, sym, subst}
use Rattle.cq_cexpr.specs.Names.{binary_of_code}
use Rattle.spec_transcript.specs.Operands.{binary_operands}
use Rattle.cq_cexpr.specs.Overflows.{ComesFrom}
use Rattle.cq_cexpr.proofs.operations.of_two.Goals as goal

pub returns-in-Plus-clause-overflow : goal.returns-in-Plus-clause-overflow
returns-in-Plus-clause-overflow c = λ pair e.
    subst (λ o. ComesFrom (binary_operands (Some (binary_of_code o)) (Some c.args.left) (Some c.args.right)) pair) (sym c.in-Plus.is) (c.plus.ensures.overflow pair e)

pub returns-in-Minus-clause-overflow : goal.returns-in-Minus-clause-overflow
returns-in-Minus-clause-overflow c = λ pair e.
    subst (λ o. ComesFrom (binary_operands (Some (binary_of_code o)) (Some c.args.left) (Some c.args.right)) pair) (sym c.in-Minus.is) (c.minus.ensures.overflow pair e)

pub returns-in-Times-clause-overflow : goal.returns-in-Times-clause-overflow
returns-in-Times-clause-overflow c = λ pair e.
    subst (λ o. ComesFrom (binary_operands (Some (binary_of_code o)) (Some c.args.left) (Some c.args.right)) pair) (sym c.in-Times.is) (c.times.ensures.overflow pair e)

pub returns-in-Over-clause-overflow : goal.returns-in-Over-clause-overflow
returns-in-Over-clause-overflow c = λ pair e.
    subst (λ o. ComesFrom (binary_operands (Some (binary_of_code o)) (Some c.args.left) (Some c.args.right)) pair) (sym c.in-Over.is) (c.over.ensures.overflow pair e)

pub returns-in-Power-clause-overflow : goal.returns-in-Power-clause-overflow
returns-in-Power-clause-overflow c = λ pair e.
    subst (λ o. ComesFrom (binary_operands (Some (binary_of_code o)) (Some c.args.left) (Some c.args.right)) pair) (sym c.in-Power.is) (c.to_the_power.ensures.overflow pair e)
