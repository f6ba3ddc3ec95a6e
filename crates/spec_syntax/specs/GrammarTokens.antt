-- The tokens of a text.
use Rattle.std.specs.Prelude.{ℕ, ◌≡◌, ◌+◌, ◌-◌, take, drop, Bool, true, ◌&&◌, ◌||◌, ◌==◌, if◌then◌else◌, List, [], ◌∷◌, Option, Some, None, Result, Ok, Err, ◌⊎◌}
use Rattle.std.specs.Char.{is_ascii_digit}
use Rattle.std.specs.List.{prefix_len}
use Rattle.std.specs.Str.{continuation_len}
use Rattle.spec_numbers.specs.Rational.{ℚ}
use Rattle.spec_syntax.specs.declared.grammar.Kind.{Kind}
use Rattle.spec_syntax.specs.declared.grammar.Kind.TheVariants.{Name, Quoted, Codes, Variable, Numeral, Punctuation, End, Eof}
use Rattle.spec_syntax.specs.declared.grammar.Gap.TheVariants.{Between}
use Rattle.spec_syntax.specs.declared.grammar.Span.{Span}
use Rattle.spec_syntax.specs.declared.grammar.LexFault.{LexFault}
use Rattle.spec_syntax.specs.declared.grammar.LexFault.TheVariants.{BadByte, WideNumber}
use Rattle.spec_syntax.specs.Characters.{is_layout, is_symbol, is_punctuation, first_char, passes, starts_name, starts_variable, begins, begins_with, name_end}
use Rattle.spec_syntax.specs.Gaps.{gap}
use Rattle.spec_syntax.specs.Quotes.{quoted, Quoted as InQuotes}
use Rattle.spec_syntax.specs.Numerals.{Spelling, spelling, value, is_wide, goes_on_as_float}

-- a token: its kind, its bytes, and its value if it is a numeral
pub record Token : Type 0 where
  pub kind : Kind
  pub span : Span
  pub number : Option ℚ

-- a token of this kind, from this place to that, with no value
abbrev pub token : Kind → ℕ → ℕ → Token
token kind start end = record { kind = kind; span = record { start = start; end = end }; number = None }

-- what follows the full stop of an end token: layout, `%` or the text's end
abbrev pub ends_clause : List ℕ → Bool
ends_clause [] = true
ends_clause (b ∷ bs) = is_layout b || (b == 37)

-- the name of so many symbol characters, or the end token
abbrev pub symbols : ℕ → List ℕ → ℕ → Token
symbols len bs at = token (if begins_with 46 bs && (len == 1) && ends_clause (drop len bs) then End else Name) at (at + len)

-- a token in quotes, or its fault
abbrev pub in_quotes : Kind → ℕ → Result InQuotes LexFault → Result Token LexFault
in_quotes kind start (Ok q) = Ok (token kind start q.stop)
in_quotes kind start (Err f) = Err f

-- a numeral, or its fault: the first in the text, too wide before a float
abbrev pub numeral : Spelling → List ℕ → ℕ → Result Token LexFault
numeral s bs at =
    if is_wide s then Err (WideNumber at)
    else if goes_on_as_float (drop s.size bs) then Err (BadByte (at + s.size))
    else Ok (record { kind = Numeral; span = record { start = at; end = at + s.size }; number = Some (value s) })

-- the token that begins with this byte, which begins no name of letters or symbol characters and no variable
abbrev pub other_token : ℕ → List ℕ → ℕ → Result Token LexFault
other_token b bs at =
    if (b == 33) || (b == 59) then Ok (token Name at (at + 1))
    else if is_punctuation b then Ok (token Punctuation at (at + 1))
    else if b == 39 then in_quotes Quoted at (quoted b 0 bs (at + 1))
    else if b == 34 then in_quotes Codes at (quoted b 0 bs (at + 1))
    else if is_ascii_digit b then numeral (spelling (b ∷ bs)) (b ∷ bs) at
    else Err (BadByte at)

-- the token that begins a text which stands at this place
abbrev pub token_at : List ℕ → ℕ → Result Token LexFault
token_at [] at = Ok (token Eof at at)
token_at (b ∷ bs) at =
    if passes starts_name (first_char (b ∷ bs)) then Ok (token Name at (name_end (continuation_len b) bs (at + 1)))
    else if starts_variable b then Ok (token Variable at (name_end 0 bs (at + 1)))
    else if is_symbol b then Ok (symbols (prefix_len is_symbol (b ∷ bs)) (b ∷ bs) at)
    else other_token b bs at

-- the token that begins at this place of a text, behind layout and comments, or their fault
abbrev pub token_behind : List ℕ → Result ℕ LexFault → Result Token LexFault
token_behind text (Ok start) = token_at (drop start text) start
token_behind text (Err f) = Err f

-- the next token of a text from this place on, or its fault
abbrev pub next_token : List ℕ → ℕ → Result Token LexFault
next_token text at = token_behind text (gap Between (drop at text) at)

-- a `(` stands directly behind the token
abbrev pub opens_directly : List ℕ → Token → Bool
opens_directly text t = begins_with 40 (drop t.span.end text)

-- a digit stands directly behind the token
abbrev pub digit_directly : List ℕ → Token → Bool
digit_directly text t = begins is_ascii_digit (drop t.span.end text)

-- the bytes of a token
abbrev pub bytes_of : List ℕ → Span → List ℕ
bytes_of text span = take (span.end - span.start) (drop span.start text)

-- the quotes that begin a text which stands at this place, and what they hold
abbrev pub quotes_at : List ℕ → ℕ → Result InQuotes LexFault
quotes_at [] at = Err (BadByte at)
quotes_at (b ∷ bs) at = quoted b 0 bs (at + 1)

-- the text that a token in quotes means
abbrev pub meant : Result InQuotes LexFault → List ℕ
meant (Ok q) = q.text
meant (Err f) = []

-- the span is that of a token in quotes
pub record IsInQuotes (text : List ℕ) (span : Span) : Type 0 where
  pub kind : Kind
  pub quotes : (kind ≡ Quoted) ⊎ (kind ≡ Codes)
  pub token : token_at (drop span.start text) span.start ≡ Ok (record { kind = kind; span = span; number = None })
