-- The tokens of a clause, as the grammar sees them.
use Rattle.std.specs.Prelude.{ℕ, Bool}
use Rattle.spec_numbers.specs.Rational.{ℚ}
use Rattle.spec_numbers.specs.Texts.{Text}

-- A name and a sign say what stands directly behind them, since the grammar asks it; so what a token is doesn't depend on the
-- next one. A variable has a number in its clause: 0, 1 and so on in the order of first occurrence, each bare `_` a new one. So
-- the tree of a clause is a term as it stands, and the variables that a reader makes on a heap are these numbers counted on from
-- its youngest variable.
pub data Token : Type 0 where
  Variable : ℕ → Token
  Numeral : ℚ → Token
  -- a text in double quotes
  Codes : Text → Token
  -- a name without a `(` directly behind it, and whether it is in quotes
  Named : Text → Bool → Token
  -- a name, in quotes or not, with a `(` directly behind it
  Functor : Text → Token
  -- a `-` that is not in quotes, with a digit directly behind it
  Minus : Token
  -- ( )
  Open : Token
  Close : Token
  -- [ ]
  OpenList : Token
  CloseList : Token
  -- { }
  OpenCurly : Token
  CloseCurly : Token
  -- , |
  Comma : Token
  Bar : Token
  -- the full stop that ends a clause
  End : Token
