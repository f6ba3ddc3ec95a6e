-- What stands behind a token of a term that is written, and what is found where its text is.
use Rattle.std.proofs.Common.{◌≡◌, ℕ, suc, ◌+◌, ◌≤◌, true, false, List, [], ◌∷◌, ◌++◌, codes, length, Some, Ok}
use Rattle.std.specs.Prelude.{⊤, ◌==◌, if◌then◌else◌, ◌≢◌}
use Rattle.std.specs.Char.{is_ascii_digit}
use Rattle.std.specs.Str.{is_utf8}
use Rattle.spec_numbers.specs.Texts.{Text}
use Rattle.spec_syntax.specs.declared.grammar.Gap.TheVariants.{Between}
use Rattle.spec_syntax.specs.Characters.{continues_name, begins, begins_with, first_char, passes}
use Rattle.spec_syntax.specs.Gaps.{gap}
use Rattle.spec_syntax.specs.GrammarTokens as lexical
use Rattle.spec_syntax.specs.GrammarTokens.{token_at}
use Rattle.spec_syntax.specs.Tokens.{Token, Variable, Numeral, Codes, Named, Functor, Minus, End}
use Rattle.spec_syntax.specs.TextTokens.{variables_after, seen}
use Rattle.spec_syntax.specs.Writing.{is_negative, needs_quotes}
use Rattle.spec_text.specs.declared.writing.Style.TheVariants.{Quoted}
use Rattle.spec_text.specs.Pieces.{Piece}
use Rattle.spec_text.specs.Texts.{token_text, own_blank, blank_behind, joined}
use Rattle.spec_text.specs.Written.{counted_name}
use Rattle.spec_text.specs.ReadingBack.{FitsNumber, counted}
use Rattle.spec_text.proofs.WritingNames.{StopsName}
use Rattle.spec_text.proofs.Numerals.{StopsNumeral}

-- nothing that follows goes on with the name, or makes it a functor or a sign
pub record StopsNamed (f more : Text) : Type 0 where
  pub apart : needs_quotes f ≡ true → begins_with 39 more ≡ false
  pub closed : begins_with 40 more ≡ false
  pub no_digit : f ≡ codes "-" → begins is_ascii_digit more ≡ false
  pub goes : needs_quotes f ≡ false → StopsName f more

-- behind a token's text nothing goes on with it, and what the token says of its neighbour is so
abbrev pub GoesNoFurther : Token → Text → Type 0
GoesNoFurther (Variable v) more = passes continues_name (first_char more) ≡ false
GoesNoFurther (Numeral q) more = StopsNumeral more
GoesNoFurther (Named f quoted) more = StopsNamed f more
GoesNoFurther (Functor f) more = begins_with 40 more ≡ true
GoesNoFurther Minus more = begins is_ascii_digit more ≡ true
GoesNoFurther tok more = ⊤

-- a name that can be written
pub record IsWritableName (f : Text) : Type 0 where
  pub valid : is_utf8 f ≡ true
  pub no_list : f ≢ codes "[]"
  pub no_braces : f ≢ codes "{}"

-- a token of a term that can be read
abbrev pub IsWritable : Token → Type 0
IsWritable (Variable v) = ⊤
IsWritable (Numeral q) = FitsNumber q × (is_negative q ≡ false)
IsWritable (Named f quoted) = IsWritableName f × (quoted ≡ needs_quotes f)
IsWritable (Functor f) = IsWritableName f
IsWritable (Codes bytes) = ⊥
IsWritable End = ⊥
IsWritable tok = ⊤

-- the variable is one of the first k, or the next
abbrev pub IsNextTo : ℕ → Token → Type 0
IsNextTo k (Variable v) = v ≤ k
IsNextTo k tok = ⊤

-- how many variables have stood, with those of a token
abbrev pub count_after : ℕ → Token → ℕ
count_after k (Variable v) = if v == k then suc k else k
count_after k tok = k

-- a token's text is cut from the text that goes on behind it, behind the variables `_1` up to `_k`
pub record IsCut (before more : List ℕ) (k : ℕ) (tok : Token) : Type 0 where
  pub found : lexical.Token
  pub no_gap : gap Between (token_text Quoted counted_name tok ++ more) (length before) ≡ Ok (length before)
  pub token : token_at (token_text Quoted counted_name tok ++ more) (length before) ≡ Ok found
  pub stop : found.span.end ≡ length before + length (token_text Quoted counted_name tok)
  pub seen : seen (before ++ (token_text Quoted counted_name tok ++ more)) (counted k) found ≡ Some tok
  pub variables : variables_after (before ++ (token_text Quoted counted_name tok ++ more)) (counted k) found ≡ counted (count_after k tok)

-- what follows a piece: its own blank, the one before the others, then these
abbrev pub text_behind : Piece → List Piece → Text → Text
text_behind p ps more = own_blank p ++ (blank_behind Quoted counted_name p ps ++ (joined Quoted counted_name ps ++ more))

-- each token of the pieces goes no further than its text, where `more` follows the last
abbrev pub AllStop : List Piece → Text → Type 0
AllStop [] more = ⊤
AllStop (p ∷ ps) more = GoesNoFurther p.token (text_behind p ps more) × AllStop ps more

-- the tokens can be written, and count the variables in turn, from k up to last
abbrev pub AllFit : ℕ → List Token → ℕ → Type 0
AllFit k [] last = k ≡ last
AllFit k (tok ∷ ts) last = IsWritable tok × IsNextTo k tok × AllFit (count_after k tok) ts last
