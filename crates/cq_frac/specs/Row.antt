-- The numbers of a row: what a contract sees of it.
use Rattle.std.specs.Prelude.{List}
use Rattle.spec_numbers.specs.Rational.{ℚ}
use Rattle.cq_frac.specs.declared.row.Entry.{Entry}

-- a constant, and the entries of live and of dropped columns
pub record Row : Type 0 where
  pub live : List Entry
  pub dropped : List Entry
  pub constant : ℚ
