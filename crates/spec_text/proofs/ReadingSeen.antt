-- Each token but the text's end is one of the grammar's.
use Rattle.std.proofs.Common.{◌≡◌, ◌≢◌, ℕ, ◌+◌, ◌-◌, Bool, true, false, List, [], ◌∷◌, drop, take, length, Some, None, Result, Ok, Err, ◌⊎◌, inl, inr, refl, sym, ap, subst, ◌∙◌, arith}
use Rattle.std.specs.Prelude.{◌==◌, ◌||◌, if◌then◌else◌}
use Rattle.std.proofs.lemmas.Bool.Decides.{nat_tests}
use Rattle.std.specs.Char.{is_ascii_digit}
use Rattle.spec_numbers.specs.Rational.{ℚ}
use Rattle.spec_syntax.specs.declared.grammar.Kind.{Kind}
use Rattle.spec_syntax.specs.declared.grammar.Kind.TheVariants.{Name, Quoted, Codes, Variable, Numeral, Punctuation, End, Eof}
use Rattle.spec_syntax.specs.declared.grammar.Gap.TheVariants.{Between}
use Rattle.spec_syntax.specs.declared.grammar.LexFault.{LexFault}
use Rattle.spec_syntax.specs.Characters.{is_punctuation, is_symbol, first_char, passes, starts_name, starts_variable}
use Rattle.spec_syntax.specs.Gaps.{gap}
use Rattle.spec_syntax.specs.Quotes.{Quoted as InQuotes}
use Rattle.spec_syntax.specs.Numerals.{Spelling, spelling, value, is_wide, goes_on_as_float}
use Rattle.spec_syntax.specs.GrammarTokens as lexical
use Rattle.spec_syntax.specs.GrammarTokens.{in_quotes, numeral, token, token_at, token_behind, next_token, bytes_of}
use Rattle.spec_syntax.proofs.Tiles.{BeginsAt, token_begins}
use Rattle.spec_syntax.specs.Tokens as syntax
use Rattle.spec_syntax.specs.Tokens.{Token, Open, Close, OpenList, CloseList, OpenCurly, CloseCurly, Comma, Bar}
use Rattle.spec_syntax.specs.TextTokens.{Variables, next_number, bare_name, quoted_name, quoted_text, mark, seen}

-- a numeral has a value, and punctuation is one of the marks
abbrev HasMeaning : List ℕ → Result lexical.Token LexFault → Type 0
HasMeaning bs (Err f) = Unit {0}
HasMeaning bs (Ok t) = (t.kind ≡ Numeral → (q : ℚ) × (t.number ≡ Some q)) × (t.kind ≡ Punctuation → (tok : Token) × (mark (take (t.span.end - t.span.start) bs) ≡ Some tok))

choice : (bs : List ℕ) (b : Bool) (x y : Result lexical.Token LexFault) → (b ≡ true → HasMeaning bs x) → HasMeaning bs y → HasMeaning bs (if b then x else y)
choice bs true x y h k = h refl
choice bs false x y h k = k

-- other kinds
plain : (bs : List ℕ) (at end : ℕ) (kind : Kind) → kind ≢ Numeral → kind ≢ Punctuation → HasMeaning bs (Ok (token kind at end))
plain bs at end kind n p = (λ e. absurd (n e), λ e. absurd (p e))

symbols_mean : (bs : List ℕ) (at end : ℕ) (b : Bool) → HasMeaning bs (Ok (token (if b then End else Name) at end))
symbols_mean bs at end true = plain bs at end End (λ e. cc) (λ e. cc)
symbols_mean bs at end false = plain bs at end Name (λ e. cc) (λ e. cc)

quotes_mean : (bs : List ℕ) (at : ℕ) (kind : Kind) (q : Result InQuotes LexFault) → kind ≢ Numeral → kind ≢ Punctuation → HasMeaning bs (in_quotes kind at q)
quotes_mean bs at kind (Ok held) n p = plain bs at held.stop kind n p
quotes_mean bs at kind (Err f) n p = tt

numeral_means : (s : Spelling) (bs : List ℕ) (at : ℕ) → HasMeaning bs (numeral s bs at)
numeral_means s bs at = choice bs (is_wide s) _ _ (λ e. tt) (choice bs (goes_on_as_float (drop s.size bs)) _ _ (λ e. tt) (λ e. (value s, refl), λ e. cc))

-- each byte of punctuation is a mark
marks : (b : ℕ) → is_punctuation b ≡ true → (tok : Token) × (mark (b ∷ []) ≡ Some tok)
marks b e = by (b == 40) (b == 41) (b == 91) (b == 93) (b == 123) (b == 125) (b == 44) (b == 124) none
  where
    none : (b == 40) ≡ false → (b == 41) ≡ false → (b == 91) ≡ false → (b == 93) ≡ false → (b == 123) ≡ false → (b == 125) ≡ false → (b == 44) ≡ false → (b == 124) ≡ false → ⊥
    none a1 a2 a3 a4 a5 a6 a7 a8 = grind (arith, nat_tests)

    by : (a1 a2 a3 a4 a5 a6 a7 a8 : Bool) → (a1 ≡ false → a2 ≡ false → a3 ≡ false → a4 ≡ false → a5 ≡ false → a6 ≡ false → a7 ≡ false → a8 ≡ false → ⊥) →
        (tok : Token) × ((if a1 then Some Open else if a2 then Some Close else if a3 then Some OpenList else if a4 then Some CloseList else if a5 then Some OpenCurly
        else if a6 then Some CloseCurly else if a7 then Some Comma else if a8 then Some Bar else None) ≡ Some tok)
    by true a2 a3 a4 a5 a6 a7 a8 n = (Open, refl)
    by false true a3 a4 a5 a6 a7 a8 n = (Close, refl)
    by false false true a4 a5 a6 a7 a8 n = (OpenList, refl)
    by false false false true a5 a6 a7 a8 n = (CloseList, refl)
    by false false false false true a6 a7 a8 n = (OpenCurly, refl)
    by false false false false false true a7 a8 n = (CloseCurly, refl)
    by false false false false false false true a8 n = (Comma, refl)
    by false false false false false false false true n = (Bar, refl)
    by false false false false false false false false n = absurd (n refl refl refl refl refl refl refl refl)

punctuation_means : (b : ℕ) (bs : List ℕ) (at : ℕ) → is_punctuation b ≡ true → HasMeaning (b ∷ bs) (Ok (token Punctuation at (at + 1)))
punctuation_means b bs at e = (λ k. cc, λ k. let one : at + 1 - at ≡ 1 = omega arith in rw one (marks b e))

token_means : (bs : List ℕ) (at : ℕ) → HasMeaning bs (token_at bs at)
token_means [] at = plain [] at at Eof (λ e. cc) (λ e. cc)
token_means (b ∷ bs) at =
    choice (b ∷ bs) (passes starts_name (first_char (b ∷ bs))) _ _ (λ e. plain (b ∷ bs) at _ Name (λ e. cc) (λ e. cc))
    (choice (b ∷ bs) (starts_variable b) _ _ (λ e. plain (b ∷ bs) at _ Variable (λ e. cc) (λ e. cc))
    (choice (b ∷ bs) (is_symbol b) _ _ (λ e. symbols_mean (b ∷ bs) at _ _)
    (choice (b ∷ bs) ((b == 33) || (b == 59)) _ _ (λ e. plain (b ∷ bs) at _ Name (λ e. cc) (λ e. cc))
    (choice (b ∷ bs) (is_punctuation b) _ _ (λ e. punctuation_means b bs at e)
    (choice (b ∷ bs) (b == 39) _ _ (λ e. quotes_mean (b ∷ bs) at Quoted _ (λ e. cc) (λ e. cc))
    (choice (b ∷ bs) (b == 34) _ _ (λ e. quotes_mean (b ∷ bs) at Codes _ (λ e. cc) (λ e. cc))
    (choice (b ∷ bs) (is_ascii_digit b) _ _ (λ e. numeral_means (spelling (b ∷ bs)) (b ∷ bs) at) tt)))))))

-- the token of a text has its meaning there
next_means : (text : List ℕ) (at : ℕ) (t : lexical.Token) → next_token text at ≡ Ok t → HasMeaning (drop t.span.start text) (Ok t)
next_means text at t e = by (gap Between (drop at text) at) e
  where
    here : (start : ℕ) (r : Result lexical.Token LexFault) → r ≡ Ok t → BeginsAt (length (drop start text)) start r → HasMeaning (drop start text) r → HasMeaning (drop t.span.start text) (Ok t)
    here start (Err f) e begins means = cc
    here start (Ok u) e begins means =
        let same : u ≡ t = cc in
        let place : start ≡ t.span.start = sym begins.begins ∙ ap (λ (x : lexical.Token). x.span.start) same in
        subst (λ n. HasMeaning (drop n text) (Ok t)) place (subst (λ x. HasMeaning (drop start text) (Ok x)) same means)

    by : (r : Result ℕ LexFault) → token_behind text r ≡ Ok t → HasMeaning (drop t.span.start text) (Ok t)
    by (Err f) e = cc
    by (Ok start) e = here start (token_at (drop start text) start) e (token_begins (drop start text) start) (token_means (drop start text) start)

-- the text's end is no token of the grammar, and every other token is one
pub end_unseen : (text : List ℕ) (variables : Variables) (t : lexical.Token) → t.kind ≡ Eof → seen text variables t ≡ None
end_unseen text variables t e = rw e refl

by_kind : (text : List ℕ) (variables : Variables) (t : lexical.Token) (k : Kind) → t.kind ≡ k → HasMeaning (drop t.span.start text) (Ok t) → (t.kind ≡ Eof) ⊎ ((tok : Token) × (seen text variables t ≡ Some tok))
by_kind text variables t Name e means = inr (bare_name text t (bytes_of text t.span), rw e refl)
by_kind text variables t Quoted e means = inr (quoted_name text t (quoted_text text t), rw e refl)
by_kind text variables t Codes e means = inr (syntax.Codes (quoted_text text t), rw e refl)
by_kind text variables t Variable e means = inr (syntax.Variable (next_number variables (bytes_of text t.span)), rw e refl)
by_kind text variables t Numeral e means = let (q, has) = means.0 e in inr (syntax.Numeral q, rw (e, has) refl)
by_kind text variables t Punctuation e means = let (tok, is) = means.1 e in inr (tok, rw e is)
by_kind text variables t End e means = inr (syntax.End, rw e refl)
by_kind text variables t Eof e means = inl e

pub end_or_seen : (text : List ℕ) (at : ℕ) (variables : Variables) (t : lexical.Token) → next_token text at ≡ Ok t → (t.kind ≡ Eof) ⊎ ((tok : Token) × (seen text variables t ≡ Some tok))
end_or_seen text at variables t e = by_kind text variables t t.kind refl (next_means text at t e)

-- a token of the grammar is not the text's end
pub seen_before_end : (text : List ℕ) (variables : Variables) (t : lexical.Token) (tok : Token) → seen text variables t ≡ Some tok → t.kind ≢ Eof
seen_before_end text variables t tok e k = let none = end_unseen text variables t k in let clash : None ≡ Some tok = sym none ∙ e in cc
