-- Texts as lists of bytes.
use Rattle.std.specs.Prelude.{ℕ, List}

-- the bytes of a text in UTF-8
abbrev pub Text : Type 0
Text = List ℕ
