-- Numerals that take a whole text.
use Rattle.std.proofs.Common.{◌≡◌, ℕ, ◌+◌, List, [], ◌∷◌, length, Bool, true, false, cond, ◌||◌, ◌==◌, Option, None, Result, Ok, Err, refl, sym, ap, ◌∙◌, append-nil}
use Rattle.std.specs.Prelude.{if◌then◌else◌}
use Rattle.std.specs.Char.{is_ascii_digit}
use Rattle.std.specs.List.{prefix_len}
use Rattle.std.specs.Str.{continuation_len}
use Rattle.spec_numbers.specs.Rational.{ℚ}
use Rattle.spec_numbers.specs.Texts.{Text}
use Rattle.spec_syntax.specs.declared.grammar.Kind.{Kind}
use Rattle.spec_syntax.specs.declared.grammar.Kind.TheVariants as kind
use Rattle.spec_syntax.specs.declared.grammar.Gap.TheVariants.{Between}
use Rattle.spec_syntax.specs.declared.grammar.LexFault.{LexFault}
use Rattle.spec_syntax.specs.declared.grammar.LexFault.TheVariants.{BadByte}
use Rattle.spec_syntax.specs.Characters.{begins, passes, first_char, starts_name, starts_variable, is_symbol, is_punctuation, name_end}
use Rattle.spec_syntax.specs.Gaps.{gap}
use Rattle.spec_syntax.specs.Numerals.{spelling}
use Rattle.spec_syntax.specs.Quotes.{quoted, Quoted as InQuotes}
use Rattle.spec_syntax.specs.GrammarTokens.{Token, token, token_at, token_behind, next_token, symbols, other_token, in_quotes, numeral}
use Rattle.spec_text.proofs.Numerals.{digit_gap}
use Rattle.spec_builtins.specs.Texts.{whole_number}

-- ---- what begins with no digit is no number
module _ (text : Text) where
  abbrev IsNoNumber : Result Token LexFault → Type 0
  IsNoNumber r = whole_number text r ≡ None

  plain : (k : Kind) (start end : ℕ) → IsNoNumber (Ok (token k start end))
  plain k start end = go (end == length text)
    where
      go : (b : Bool) → ◌≡◌ {A = Option ℚ} (cond b None None) None
      go true = refl
      go false = refl

  either : (c : Bool) (r s : Result Token LexFault) → IsNoNumber r → IsNoNumber s → IsNoNumber (if c then r else s)
  either true r s h k = h
  either false r s h k = k

  quotes : (k : Kind) (at : ℕ) (r : Result InQuotes LexFault) → IsNoNumber (in_quotes k at r)
  quotes k at (Ok q) = plain k at q.stop
  quotes k at (Err f) = refl

  other : (b : ℕ) (bs : List ℕ) (at : ℕ) → is_ascii_digit b ≡ false → IsNoNumber (other_token b bs at)
  other b bs at e =
      either ((b == 33) || (b == 59)) (Ok (token kind.Name at (at + 1))) _ (plain kind.Name at (at + 1)) (
      either (is_punctuation b) (Ok (token kind.Punctuation at (at + 1))) _ (plain kind.Punctuation at (at + 1)) (
      either (b == 39) (in_quotes kind.Quoted at (quoted b 0 bs (at + 1))) _ (quotes kind.Quoted at (quoted b 0 bs (at + 1))) (
      either (b == 34) (in_quotes kind.Codes at (quoted b 0 bs (at + 1))) _ (quotes kind.Codes at (quoted b 0 bs (at + 1))) (
      ap (λ (d : Bool). whole_number text (if d then numeral (spelling (b ∷ bs)) (b ∷ bs) at else Err (BadByte at))) e))))

  pub no_number : (bs : List ℕ) (at : ℕ) → begins is_ascii_digit bs ≡ false → whole_number text (token_at bs at) ≡ None
  no_number [] at e = plain kind.Eof at at
  no_number (b ∷ bs) at e =
      either (passes starts_name (first_char (b ∷ bs))) (Ok (token kind.Name at (name_end (continuation_len b) bs (at + 1)))) _ (plain kind.Name at (name_end (continuation_len b) bs (at + 1))) (
      either (starts_variable b) (Ok (token kind.Variable at (name_end 0 bs (at + 1)))) _ (plain kind.Variable at (name_end 0 bs (at + 1))) (
      either (is_symbol b) (Ok (symbols (prefix_len is_symbol (b ∷ bs)) (b ∷ bs) at)) _ (plain kind.Name at (at + prefix_len is_symbol (b ∷ bs))) (
      other b bs at e)))

-- ---- what begins with a digit has nothing before its token
pub digit_first : (text : Text) → begins is_ascii_digit text ≡ true → next_token text 0 ≡ token_at text 0
digit_first text e = ap (token_behind text) (ap (λ (w : Text). gap Between w 0) (sym (append-nil text)) ∙ digit_gap text [] 0 e)

-- ---- a text whose token begins with a digit
pub digit_token : (text : Text) (t : Token) → begins is_ascii_digit text ≡ true → Ok t ≡ next_token text 0 → whole_number text (token_at text 0) ≡ (if t.span.end == length text then t.number else None)
digit_token text t digit is = ap (whole_number text) (sym (is ∙ digit_first text digit))
