-- The overflows of the operations of a term.
use Rattle.std.specs.Prelude.{List}
use Rattle.spec_linear.specs.Solution.{Has}
use Rattle.spec_simplex.specs.Overflow.{Operands, Moment, OverflowDue}
use Rattle.cq_frac.specs.declared.Pair.{Pair}

-- each of the first operations is one of the others
abbrev pub Within : List Operands → List Operands → Type 0
Within some all = (o : Operands) → Has o some → Has o all

-- one of the operations refuses the pair, whatever else is in force with them
abbrev pub ComesFrom : List Operands → Pair → Type 0
ComesFrom operations pair = (m : Moment) → Within operations m.operations → OverflowDue m pair
