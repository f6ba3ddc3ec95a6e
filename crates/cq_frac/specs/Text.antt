-- How a number is written: `N`, or `NrD` where it isn't whole.
use Rattle.std.specs.Prelude.{ℕ, zero, suc, List, [], ◌++◌, codes}
use Rattle.std.specs.Fmt.{decimal, signed_decimal}
use Rattle.spec_numbers.specs.Rational.{ℚ}

-- by the denominator less one
abbrev pub denominator_text : ℕ → List ℕ
denominator_text zero = []
denominator_text (suc below) = codes "r" ++ decimal (suc (suc below))

abbrev pub number_text : ℚ → List ℕ
number_text q = signed_decimal q.numerator ++ denominator_text q.below
