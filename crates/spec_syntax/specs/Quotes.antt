-- Quoted texts and their escapes.
use Rattle.std.specs.Prelude.{ℕ, zero, suc, ◌+◌, ◌-◌, ◌*◌, drop, nat_lt, encode_utf8, Bool, ◌&&◌, ◌||◌, ◌==◌, if◌then◌else◌, List, [], ◌∷◌, ◌++◌, Option, Some, None, Result, Ok, Err}
use Rattle.std.specs.Char.{is_digit, digit_value}
use Rattle.std.specs.List.{prefix_len}
use Rattle.std.specs.Str.{continuation_len}
use Rattle.spec_syntax.specs.declared.grammar.Escape.{Escape}
use Rattle.spec_syntax.specs.declared.grammar.LexFault.{LexFault}
use Rattle.spec_syntax.specs.declared.grammar.LexFault.TheVariants.{BadByte, OpenQuote}
use Rattle.spec_syntax.specs.Characters.{first_char, begins_with}

-- how many digits of a base the text begins with
abbrev pub digits_len : ℕ → List ℕ → ℕ
digits_len base bs = prefix_len (λ b. is_digit b base) bs

-- the value of the digits with which the text begins, behind digits of this value
abbrev pub digits_onto : ℕ → ℕ → List ℕ → ℕ
digits_onto base value [] = value
digits_onto base value (b ∷ bs) = if is_digit b base then digits_onto base (value * base + digit_value b) bs else value

-- the value of the digits with which the text begins
abbrev pub digits_value : ℕ → List ℕ → ℕ
digits_value base bs = digits_onto base 0 bs

-- the number is that of a Unicode scalar value
abbrev pub is_scalar : ℕ → Bool
is_scalar c = nat_lt c 0xd800 || (nat_lt 0xdfff c && nat_lt c 0x11_0000)

-- an escape of one byte
abbrev pub one_byte : ℕ → Result Escape LexFault
one_byte c = Ok (record { size = 1; stands_for = Some c })

-- what the digits of a numbered escape lead to: the text's end leaves the quotes open, a backslash closes the escape
abbrev pub closing : ℕ → ℕ → ℕ → List ℕ → ℕ → Result Escape LexFault
closing before len value [] at = Err (OpenQuote (at + before + len))
closing before len value (b ∷ bs) at =
    if (len == 0) || nat_lt b 92 || nat_lt 92 b then Err (BadByte at)
    else if is_scalar value then Ok (record { size = before + len + 1; stands_for = Some value })
    else Err (BadByte (at - 1))

-- The escape of a number, of which `before` bytes stand in front of the digits and `at` is the place behind the backslash.
abbrev pub numbered : ℕ → ℕ → List ℕ → ℕ → Result Escape LexFault
numbered base before bs at = closing before (digits_len base bs) (digits_value base bs) (drop (digits_len base bs) bs) at

-- the character that an escape of one letter or sign stands for
abbrev pub letter : ℕ → Option ℕ
letter b =
    if (b == 92) || (b == 39) || (b == 34) || (b == 96) then Some b
    else if b == 97 then Some 7
    else if b == 98 then Some 8
    else if b == 102 then Some 12
    else if b == 110 then Some 10
    else if b == 114 then Some 13
    else if b == 116 then Some 9
    else if b == 118 then Some 11
    else None

-- the escape with this byte behind the backslash, which stands for this character if it is one of a letter or sign
abbrev pub escape_at : Option ℕ → ℕ → List ℕ → ℕ → Result Escape LexFault
escape_at (Some c) b bs at = one_byte c
escape_at None b bs at =
    if b == 10 then Ok (record { size = 1; stands_for = None })
    else if b == 120 then numbered 16 1 bs at
    else if is_digit b 8 then numbered 8 0 (b ∷ bs) at
    else Err (BadByte at)

-- the escape of which this text stands behind the backslash, at this place
abbrev pub escape : List ℕ → ℕ → Result Escape LexFault
escape [] at = Err (OpenQuote at)
escape (b ∷ bs) at = escape_at (letter b) b bs at

-- what quotes hold, and the place behind the closing one
pub record Quoted : Type 0 where
  pub text : List ℕ
  pub stop : ℕ

-- the bytes of a character, or none
abbrev pub spelled : Option ℕ → List ℕ
spelled None = []
spelled (Some c) = encode_utf8 c

-- a character in front, or none
abbrev pub in_front : Option ℕ → Result Quoted LexFault → Result Quoted LexFault
in_front c (Ok q) = Ok (record { text = spelled c ++ q.text; stop = q.stop })
in_front c (Err f) = Err f

-- The text in quotes q, of which the reader stands behind the opening one. The first `skip` bytes are of a character, an
-- escape or a doubled quote that was read.
abbrev pub quoted : ℕ → ℕ → List ℕ → ℕ → Result Quoted LexFault
quoted q skip [] at = Err (OpenQuote at)
quoted q (suc skip) (b ∷ bs) at = quoted q skip bs (at + 1)
quoted q zero (b ∷ bs) at =
    if b == 10 then Err (OpenQuote at)
    else if b == q then (if begins_with q bs then in_front (Some q) (quoted q 1 bs (at + 1)) else Ok (record { text = []; stop = at + 1 }))
    else if b == 92 then elim (escape bs (at + 1)) [ Ok e ↦ in_front e.stands_for (quoted q e.size bs (at + 1)) | Err f ↦ Err f ]
    else elim (first_char (b ∷ bs)) [ Some c ↦ in_front (Some c) (quoted q (continuation_len b) bs (at + 1)) | None ↦ Err (BadByte at) ]

-- where quotes end, just behind the closing one, or their fault
abbrev pub ends : Result Quoted LexFault → Result ℕ LexFault
ends (Ok q) = Ok q.stop
ends (Err f) = Err f
