-- The lines that a run tells on `err`.
use Rattle.std.specs.Prelude.{◌++◌, codes}
use Rattle.spec_numbers.specs.Texts.{Text}

-- the line of words that the command does not take
abbrev pub words_line : Text
words_line = codes "clpq: bad command line\n"

-- the line of a file that is not there
abbrev pub absent_line : Text → Text
absent_line name = codes "clpq: no file " ++ name ++ codes "\n"

-- the line of a file with too many bytes
abbrev pub large_line : Text → Text
large_line name = codes "clpq: too large " ++ name ++ codes "\n"

-- the line of an input with too many bytes
abbrev pub input_line : Text
input_line = codes "clpq: too large input\n"

-- the line of a read that failed
abbrev pub read_line : Text
read_line = codes "clpq: read failed\n"

-- the line of a write that failed
abbrev pub write_line : Text
write_line = codes "clpq: write failed\n"

-- the line of memory that is wanting
abbrev pub memory_line : Text
memory_line = codes "clpq: out of memory\n"
