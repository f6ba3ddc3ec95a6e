-- Numerals.
use Rattle.std.specs.Prelude.{ℕ, ◌+◌, ◌-◌, ◌^◌, drop, nat_lt, pos, Bool, false, ◌&&◌, ◌||◌, ◌==◌, if◌then◌else◌, List, [], ◌∷◌, Option, Some, None, Result, Ok, Err}
use Rattle.std.specs.Char.{is_ascii_digit}
use Rattle.std.specs.Str.{continuation_len}
use Rattle.spec_numbers.specs.Rational.{ℚ, ratio}
use Rattle.spec_syntax.specs.declared.grammar.Escape.{Escape}
use Rattle.spec_syntax.specs.declared.grammar.LexFault.{LexFault}
use Rattle.spec_syntax.specs.Characters.{first_char, begins, begins_with}
use Rattle.spec_syntax.specs.Quotes.{digits_len, digits_value, escape}

-- the greatest number that a part may be
abbrev pub greatest : ℕ
greatest = 2 ^ 127 - 1

-- the parts of a numeral as written, and how many bytes it has
pub record Spelling : Type 0 where
  pub over : ℕ
  pub under : ℕ
  pub size : ℕ

-- a whole number of so many bytes
abbrev pub whole : ℕ → ℕ → Spelling
whole n size = record { over = n; under = 1; size = size }

-- digits of a base behind a 0 and its letter, if there are some
abbrev pub based : ℕ → List ℕ → Option Spelling
based base bs = if digits_len base bs == 0 then None else Some (whole (digits_value base bs) (2 + digits_len base bs))

-- an escape that stands for a character
abbrev pub escaped : Result Escape LexFault → Option Spelling
escaped (Err f) = None
escaped (Ok e) = elim e.stands_for [ None ↦ None | Some c ↦ Some (whole c (3 + e.size)) ]

-- a character behind `0'`, if one fits: a doubled quote, an escape that stands for a character, or any other but a line feed
abbrev pub character : List ℕ → Option Spelling
character [] = None
character (b ∷ bs) =
    if b == 39 then (if begins_with 39 bs then Some (whole 39 4) else None)
    else if b == 92 then escaped (escape bs 1)
    else if b == 10 then None
    else elim (first_char (b ∷ bs)) [ None ↦ None | Some c ↦ Some (whole c (3 + continuation_len b)) ]

-- what follows a 0: a letter and digits of its base, or a quote and a character
abbrev pub marked : List ℕ → Option Spelling
marked [] = None
marked (b ∷ bs) = if b == 120 then based 16 bs else if b == 111 then based 8 bs else if b == 98 then based 2 bs else if b == 39 then character bs else None

-- r and a digit
abbrev pub goes_on_as_fraction : List ℕ → Bool
goes_on_as_fraction [] = false
goes_on_as_fraction (b ∷ bs) = (b == 114) && begins is_ascii_digit bs

-- a number of so many digits, and then perhaps r and digits
abbrev pub fraction : ℕ → ℕ → List ℕ → Spelling
fraction n len bs =
    if goes_on_as_fraction bs then record { over = n; under = digits_value 10 (drop 1 bs); size = len + 1 + digits_len 10 (drop 1 bs) } else whole n len

-- digits, perhaps a fraction
abbrev pub plain : List ℕ → Spelling
plain bs = fraction (digits_value 10 bs) (digits_len 10 bs) (drop (digits_len 10 bs) bs)

-- the first, or the other where there is none
abbrev pub spelling_or : Option Spelling → Spelling → Spelling
spelling_or None other = other
spelling_or (Some s) other = s

-- the numeral with which a text begins
abbrev pub spelling : List ℕ → Spelling
spelling [] = whole 0 0
spelling (b ∷ bs) = if b == 48 then spelling_or (marked bs) (plain (b ∷ bs)) else plain (b ∷ bs)

-- a full stop and a digit
abbrev pub goes_on_as_float : List ℕ → Bool
goes_on_as_float [] = false
goes_on_as_float (b ∷ bs) = (b == 46) && begins is_ascii_digit bs

-- a part as written is past the greatest number, or the lower one is zero
abbrev pub is_wide : Spelling → Bool
is_wide s = nat_lt greatest s.over || nat_lt greatest s.under || (s.under == 0)

-- the number in lowest terms
abbrev pub value : Spelling → ℚ
value s = ratio (pos s.over) s.under
