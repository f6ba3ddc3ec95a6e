-- Expressions over two numbers.
use Rattle.std.specs.Prelude.{ℤ}
use Rattle.spec_numbers.specs.Rational.{int_ℚ}
use Rattle.spec_terms.specs.Term.{Term, Number, Compound, one, more}
use Rattle.spec_numbers.specs.Texts.{Text}

-- a whole number, as a term
abbrev pub whole : ℤ → Term Text
whole z = Number (int_ℚ z)

-- a compound of two arguments
abbrev pub binary : Text → Term Text → Term Text → Term Text
binary f t u = Compound f (more t (one u))
