-- Small constraints and fixed values to try the definitions on.
use Rattle.std.specs.Prelude.{ℕ, pos, if◌then◌else◌, ◌==◌, Option, Some, None}
use Rattle.spec_numbers.specs.Rational.{ℚ, int_ℚ, ratio}
use Rattle.spec_terms.specs.Term.{Var, Number}
use Rattle.spec_syntax.specs.Trees.{Tree}

-- the variable of number 0
abbrev pub X : Tree
X = Var 0

-- the variable of number 1
abbrev pub Y : Tree
Y = Var 1

-- the variable of number 2
abbrev pub Z : Tree
Z = Var 2

-- a half
abbrev pub half : Tree
half = Number (ratio (pos 1) 2)

-- no variable has a fixed value
abbrev pub none_fixed : ℕ → Option ℚ
none_fixed x = None

-- Y is 2
abbrev pub two_fixed : ℕ → Option ℚ
two_fixed x = if x == 1 then Some (int_ℚ (pos 2)) else None
