-- The texts of names and tokens, and the blanks between neighbouring pieces.
use Rattle.std.specs.Prelude.{ℕ, suc, ◌==◌, bytes_eq, codes, chars, encode_utf8, Bool, false, not, ◌&&◌, ◌||◌, if◌then◌else◌, List, [], ◌∷◌, ◌++◌, length, Option, Some, None}
use Rattle.std.specs.Char.{is_ascii_digit, is_control}
use Rattle.std.specs.Fmt.{digits_onto}
use Rattle.spec_numbers.specs.Texts.{Text}
use Rattle.spec_syntax.specs.Characters.{is_symbol, starts_name, continues_name, begins, begins_with, first_char, passes}
use Rattle.spec_syntax.specs.Tokens.{Token, Variable, Numeral, Codes, Named, Functor, Minus, Open, Close, OpenList, CloseList, OpenCurly, CloseCurly, Comma, Bar, End}
use Rattle.spec_syntax.specs.Writing.{needs_quotes}
use Rattle.spec_text.specs.declared.writing.Style.{Style}
use Rattle.spec_text.specs.declared.writing.Style.TheVariants.{Plain, Quoted}
use Rattle.spec_text.specs.Numbers.{number_text}
use Rattle.spec_text.specs.Pieces.{Piece}

-- ---- names

-- a character inside quotes q
abbrev pub escaped : ℕ → ℕ → Text
escaped q c =
    if c == 92 then codes "\\\\"
    else if c == q then 92 ∷ q ∷ []
    else if c == 10 then codes "\\n"
    else if c == 9 then codes "\\t"
    else if is_control c then codes "\\x" ++ digits_onto (suc c) 16 false c [] ++ codes "\\"
    else encode_utf8 c

-- characters inside quotes q
abbrev pub all_escaped : ℕ → List ℕ → Text
all_escaped q [] = []
all_escaped q (c ∷ cs) = escaped q c ++ all_escaped q cs

-- a text in quotes q
abbrev pub in_quotes : ℕ → Text → Text
in_quotes q f = q ∷ (all_escaped q (chars f) ++ q ∷ [])

-- a name that is quoted where the style asks for it: one that is no unquoted name token, and is neither `[]` nor `{}`
abbrev pub is_quoted : Text → Bool
is_quoted f = needs_quotes f && not (bytes_eq f (codes "[]")) && not (bytes_eq f (codes "{}"))

-- a name as it is, or in quotes where the style and the name ask for them
unfoldable pub name_text : Style → Text → Text
name_text Plain f = f
name_text Quoted f = if is_quoted f then in_quotes 39 f else f

-- ---- pieces

-- the last character
abbrev pub last_of : List ℕ → Option ℕ
last_of [] = None
last_of (c ∷ []) = Some c
last_of (c ∷ d ∷ cs) = last_of (d ∷ cs)

-- the characters that touch pass these tests
abbrev pub both_pass : (ℕ → Bool) → (ℕ → Bool) → Text → Text → Bool
both_pass left right a b = passes left (last_of (chars a)) && passes right (first_char b)

-- a character that a name of letters, a variable or a numeral may end with
abbrev pub ends_name : ℕ → Bool
ends_name c = starts_name c || continues_name c

-- the blank on each side of a piece that has one there, whatever its neighbours are
abbrev pub own_blank : Piece → Text
own_blank p = if p.has_blanks then codes " " else []

module _ (style : Style) (name : ℕ → Text) where
  -- a token with variables by these names; of no term a text in double quotes is written
  abbrev pub token_text : Token → Text
  token_text (Variable v) = name v
  token_text (Numeral q) = number_text q
  token_text (Codes bytes) = in_quotes 34 bytes
  token_text (Named f quoted) = name_text style f
  token_text (Functor f) = name_text style f
  token_text Minus = codes "-"
  token_text Open = codes "("
  token_text Close = codes ")"
  token_text OpenList = codes "["
  token_text CloseList = codes "]"
  token_text OpenCurly = codes "{"
  token_text CloseCurly = codes "}"
  token_text Comma = codes ","
  token_text Bar = codes "|"
  token_text End = codes "."

  -- a piece's text
  abbrev pub text_of : Piece → Text
  text_of p = token_text p.token

  -- texts that would run together
  abbrev pub run_together : Text → Text → Bool
  run_together a b = both_pass is_symbol is_symbol a b || both_pass ends_name continues_name a b

  -- a prefix operator with this text would be read otherwise directly before this text
  abbrev pub would_bind : Text → Text → Bool
  would_bind a b = begins_with 40 b || (bytes_eq a (codes "-") && begins is_ascii_digit b)

  -- a blank stands between these neighbours, where neither has its own
  unfoldable pub is_apart : Piece → Piece → Bool
  is_apart p q = not (p.has_blanks || q.has_blanks) && (run_together (text_of p) (text_of q) || (p.is_prefix && would_bind (text_of p) (text_of q)))

  -- what stands between a piece and those behind it, with their own blanks
  abbrev pub blank_behind : Piece → List Piece → Text
  blank_behind p [] = []
  blank_behind p (q ∷ qs) = if is_apart p q then codes " " else []

  -- the pieces with their own blanks and those between them
  abbrev pub joined : List Piece → Text
  joined [] = []
  joined (p ∷ ps) = own_blank p ++ (text_of p ++ (own_blank p ++ (blank_behind p ps ++ joined ps)))

  -- Without those that leave nothing, as the name of no characters does where names are written as they are. So the characters
  -- that touch are those that are seen to.
  abbrev pub seen : List Piece → List Piece
  seen [] = []
  seen (p ∷ ps) = if (length (text_of p) == 0) && not p.has_blanks then seen ps else p ∷ seen ps
