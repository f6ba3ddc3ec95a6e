use Rattle.std.proofs.Common.{Some, sym, subst}
use Rattle.cq_cexpr.specs.Names.{binary_meant, binary_of_code}
use Rattle.spec_transcript.specs.Operands.{binary_operands}
use Rattle.cq_cexpr.specs.Overflows.{ComesFrom}
use Rattle.cq_cexpr.proofs.operations.binary.Goals as goal

pub returns-clause-overflow : goal.returns-clause-overflow
returns-clause-overflow c = λ pair e.
    subst (λ n. ComesFrom (binary_operands (binary_meant n) c.args.left c.args.right) pair) (sym c.in-Some.is)
    (subst (λ l. ComesFrom (binary_operands (Some (binary_of_code c.in-Some.operation)) l c.args.right) pair) (sym c.in-Some-left.is)
    (subst (λ r. ComesFrom (binary_operands (Some (binary_of_code c.in-Some.operation)) (Some c.in-Some-left.left) r) pair) (sym c.in-Some-right.is)
    (c.of_two.ensures.overflow pair e)))
