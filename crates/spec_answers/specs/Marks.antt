-- The kinds of lines that a transcript has.
use Rattle.std.specs.Prelude.{Bool, true, false}

-- what kind of line was written: one of the program, of an answer or of the end of a search, an error line, or a stop
pub data Mark : Type 0 where
  plain_line error_line stop_line : Mark

-- whether some error line and some stop was written
pub record Marks : Type 0 where
  pub faulty : Bool
  pub stopped : Bool

-- no error line, and no stop
abbrev pub unmarked : Marks
unmarked = record { faulty = false; stopped = false }

-- with the mark of one more line
abbrev pub marked : Marks → Mark → Marks
marked m plain_line = m
marked m error_line = record m { faulty = true }
marked m stop_line = record m { stopped = true }
