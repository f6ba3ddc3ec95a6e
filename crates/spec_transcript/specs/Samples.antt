-- Terms to try the operations on.
use Rattle.std.specs.Prelude.{pos}
use Rattle.spec_numbers.specs.Rational.{ℚ, int_ℚ}
use Rattle.spec_linear.specs.Form.{constant_form}
use Rattle.cq_frac.specs.declared.Operation.TheVariants.{Product}
use Rattle.spec_simplex.specs.Overflow.{Operands, on}
use Rattle.spec_terms.specs.Term.{Var}
use Rattle.spec_syntax.specs.Trees.{Tree}
use Rattle.spec_builtins.specs.Built.{natural, compound2}

-- the number 2
abbrev pub two : ℚ
two = int_ℚ (pos 2)

-- the product with two
abbrev pub times_two : ℚ → Operands
times_two q = on Product (constant_form q) (constant_form two)

-- 2*X
abbrev pub doubled : Tree
doubled = compound2 "*" (natural 2) (Var 0)

-- X*Y
abbrev pub product : Tree
product = compound2 "*" (Var 0) (Var 1)

-- 2^3
abbrev pub cube : Tree
cube = compound2 "^" (natural 2) (natural 3)
