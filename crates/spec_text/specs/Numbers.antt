-- How numbers are written.
use Rattle.std.specs.Prelude.{ℕ, zero, suc, ℤ, pos, negsuc, false, [], ◌++◌, codes}
use Rattle.std.specs.Fmt.{digits_onto}
use Rattle.spec_numbers.specs.Rational.{ℚ}
use Rattle.spec_numbers.specs.Texts.{Text}

-- the decimal digits of a number of any length
abbrev pub whole_text : ℕ → Text
whole_text n = digits_onto (suc n) 10 false n []

-- `r` and the denominator, for the denominator less one, and nothing where it is 1
abbrev pub under_text : ℕ → Text
under_text zero = []
under_text (suc n) = codes "r" ++ whole_text (suc (suc n))

-- the same with a numerator before it
abbrev pub parts_text : ℤ → ℕ → Text
parts_text z below = elim z [ pos n ↦ whole_text n ++ under_text below | negsuc n ↦ codes "-" ++ whole_text (suc n) ++ under_text below ]

-- a number in lowest terms: N or NrD, with `-` in front where it is below zero
abbrev pub number_text : ℚ → Text
number_text q = parts_text q.numerator q.below
