-- The program's spelling of a numeral as that of the definition.
use Rattle.std.specs.Prelude.{◌≡◌, ◌≤◌, ◌<◌, ◌^◌, ℕ, true, Option, Some, None}
use Rattle.cq_read.specs.declared.lex.numerals.Written.{Written}
use Rattle.cq_read.specs.declared.lex.numerals.Part.{Part}
use Rattle.cq_read.specs.declared.lex.numerals.Part.TheVariants.{Absent, Wide, There}
use Rattle.spec_syntax.specs.Numerals.{Spelling, is_wide}

abbrev pub spelt : Written → Spelling
spelt w = record { over = w.over; under = w.under; size = w.size }

-- the parts are no larger than a number's may be, and the text is that long
pub record Fits (w : Written) (len : ℕ) : Type 0 where
  pub over : w.over < 2 ^ 127
  pub under : w.under < 2 ^ 127
  pub size : w.size ≤ len

-- some part is too large, or the program has the spelling, in a text of this length
abbrev pub Spells : Option Written → Spelling → ℕ → Type 0
Spells None s len = is_wide s ≡ true
Spells (Some w) s len = (spelt w ≡ s) × Fits w len

-- there is no such spelling, or one with a part that is too large, or the program has it
abbrev pub Finds : Part → Option Spelling → ℕ → Type 0
Finds Absent o len = o ≡ None
Finds Wide o len = (s : Spelling) × (o ≡ Some s) × (is_wide s ≡ true)
Finds (There w) o len = (o ≡ Some (spelt w)) × Fits w len
