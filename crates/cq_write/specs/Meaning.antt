-- What is written, by the texts of the names.
use Rattle.std.specs.Prelude.{List}
use Rattle.cq_ops.specs.Tables.{Tables, named as by_text}
use Rattle.spec_numbers.specs.Texts.{Text}
use Rattle.spec_syntax.specs.Operators.{Ops}

-- the operators by the texts of their names
abbrev pub operators : List Text → Tables → Ops
operators texts tables = by_text texts tables
