-- A token in quotes holds a text.
use Rattle.std.proofs.Common.{◌≡◌, ℕ, ◌+◌, Bool, true, false, List, [], ◌∷◌, drop, length, Option, Some, None, Result, Ok, Err, refl, sym, ap, subst, ◌∙◌, ◌⊎◌, inl, inr, arith}
use Rattle.std.specs.Prelude.{◌==◌, ◌||◌, ◌&&◌, if◌then◌else◌}
use Rattle.std.specs.Char.{is_ascii_digit}
use Rattle.std.specs.List.{prefix_len}
use Rattle.spec_syntax.specs.declared.grammar.Kind.{Kind}
use Rattle.spec_syntax.specs.declared.grammar.Kind.TheVariants.{Name, Quoted, Codes, Variable, Numeral, Punctuation, End, Eof}
use Rattle.spec_syntax.specs.declared.grammar.LexFault.{LexFault}
use Rattle.spec_syntax.specs.Characters.{is_symbol, is_punctuation, first_char, passes, starts_name, starts_variable, begins_with}
use Rattle.spec_syntax.specs.Quotes.{quoted, Quoted as InQuotes}
use Rattle.spec_syntax.specs.Numerals.{Spelling, spelling, is_wide, goes_on_as_float}
use Rattle.spec_syntax.specs.GrammarTokens.{Token, token, ends_clause, symbols, in_quotes, numeral, token_at, quotes_at, token_behind, next_token, IsInQuotes}
use Rattle.spec_syntax.specs.Gaps.{gap}
use Rattle.spec_syntax.specs.declared.grammar.Gap.TheVariants.{Between}

kind_of : Result Token LexFault → Option Kind
kind_of (Ok t) = Some t.kind
kind_of (Err f) = None

-- the kind of a token in quotes
abbrev pub IsQuoting : Kind → Type 0
IsQuoting kind = (kind ≡ Quoted) ⊎ (kind ≡ Codes)

-- a token in quotes holds something
Holds : Result InQuotes LexFault → ℕ → Result Token LexFault → Type 0
Holds quotes at r = (t : Token) → r ≡ Ok t → IsQuoting t.kind → (held : InQuotes) × (quotes ≡ Ok held) × (t ≡ token t.kind at held.stop)

module _ (quotes : Result InQuotes LexFault) (at : ℕ) where
  either : (b : Bool) (x y : Result Token LexFault) → Holds quotes at x → Holds quotes at y → Holds quotes at (if b then x else y)
  either true x y h k = h
  either false x y h k = k

  fails : (f : LexFault) → Holds quotes at (Err f)
  unfolding Holds kind_of
  fails f t e kind = let h : None ≡ Some t.kind = ap kind_of e in absurd (cc)

  other : (kind : Kind) (r : Result Token LexFault) → Some kind ≡ kind_of r → (kind ≡ Quoted → ⊥) → (kind ≡ Codes → ⊥) → Holds quotes at r
  unfolding Holds kind_of
  other kind r is no_quoted no_codes t e quoting =
      let h : Some kind ≡ Some t.kind = is ∙ ap kind_of e in
      let same : kind ≡ t.kind = cc in
      elim quoting [ inl k ↦ absurd (no_quoted (same ∙ k)) | inr k ↦ absurd (no_codes (same ∙ k)) ]

  quoting : (kind : Kind) → Holds quotes at (in_quotes kind at quotes)
  unfolding Holds
  quoting kind t e k = by quotes e
    where
      by : (r : Result InQuotes LexFault) → in_quotes kind at r ≡ Ok t → (held : InQuotes) × (r ≡ Ok held) × (t ≡ token t.kind at held.stop)
      by (Ok held) e = let same : token kind at held.stop ≡ t = cc in (held, refl, sym same ∙ ap (λ (u : Token). token u.kind at held.stop) same)
      by (Err f) e = absurd (cc)

  symbol_token : (len : ℕ) (bs : List ℕ) → Holds quotes at (Ok (symbols len bs at))
  unfolding kind_of
  symbol_token len bs = by (begins_with 46 bs && (len == 1) && ends_clause (drop len bs))
    where
      by : (end : Bool) → Holds quotes at (Ok (token (if end then End else Name) at (at + len)))
      by true = other End _ refl (λ e. cc) (λ e. cc)
      by false = other Name _ refl (λ e. cc) (λ e. cc)

  number : (s : Spelling) (bs : List ℕ) → Holds quotes at (numeral s bs at)
  unfolding kind_of
  number s bs =
      either (is_wide s) _ _ (fails _) (either (goes_on_as_float (drop s.size bs)) _ _ (fails _) (other Numeral _ refl (λ e. cc) (λ e. cc)))

holds : (bs : List ℕ) (at : ℕ) → Holds (quotes_at bs at) at (token_at bs at)
unfolding kind_of
holds [] at = other (quotes_at [] at) at Eof _ refl (λ e. cc) (λ e. cc)
holds (b ∷ bs) at =
    let q = quoted b 0 bs (at + 1) in
    either q at (passes starts_name (first_char (b ∷ bs))) _ _ (other q at Name _ refl (λ e. cc) (λ e. cc))
    (either q at (starts_variable b) _ _ (other q at Variable _ refl (λ e. cc) (λ e. cc))
    (either q at (is_symbol b) _ _ (symbol_token q at (prefix_len is_symbol (b ∷ bs)) (b ∷ bs))
    (either q at ((b == 33) || (b == 59)) _ _ (other q at Name _ refl (λ e. cc) (λ e. cc))
    (either q at (is_punctuation b) _ _ (other q at Punctuation _ refl (λ e. cc) (λ e. cc))
    (either q at (b == 39) _ _ (quoting q at Quoted)
    (either q at (b == 34) _ _ (quoting q at Codes)
    (either q at (is_ascii_digit b) _ _ (number q at (spelling (b ∷ bs)) (b ∷ bs)) (fails q at _))))))))

-- a token in quotes holds a text
pub quotes_hold : (bs : List ℕ) (at : ℕ) (t : Token) → token_at bs at ≡ Ok t → IsQuoting t.kind → (held : InQuotes) × (quotes_at bs at ≡ Ok held) × (t ≡ token t.kind at held.stop)
unfolding Holds
quotes_hold bs at t e quoting = holds bs at t e quoting

-- and takes a byte
pub quotes_take : (bs : List ℕ) (at : ℕ) (t : Token) → token_at bs at ≡ Ok t → IsQuoting t.kind → length bs ≡ 0 → ⊥
quotes_take [] at t e quoting none = let h = quotes_hold [] at t e quoting in no_hold (h.1)
  where
    no_hold : {f : LexFault} {held : InQuotes} → Err f ≡ Ok held → ⊥
    no_hold e = cc
quotes_take (b ∷ bs) at t e quoting none = omega arith

-- a token in quotes that comes next is one for which the meant text can be asked
pub next_in_quotes : (text : List ℕ) (at : ℕ) (t : Token) → next_token text at ≡ Ok t → IsQuoting t.kind → IsInQuotes text t.span
next_in_quotes text at t e quoting = by (gap Between (drop at text) at) e
  where
    by : (r : Result ℕ LexFault) → token_behind text r ≡ Ok t → IsInQuotes text t.span
    by (Err f) e = absurd (no_token f t e)
      where
        no_token : (f : LexFault) (t : Token) → (let r : Result Token LexFault = Err f in r ≡ Ok t) → ⊥
        no_token f t e = cc
    by (Ok start) e =
        let here = quotes_hold (drop start text) start t e quoting in
        let begins : t.span.start ≡ start = ap (λ (u : Token). u.span.start) here.2 in
        let same : t ≡ record { kind = t.kind; span = t.span; number = None } = here.2 ∙ ap (λ span. record { kind = t.kind; span = span; number = None }) (ap (λ (u : Token). u.span) (sym here.2)) in
        record {
          kind = t.kind;
          quotes = quoting;
          token = subst (λ n. token_at (drop n text) n ≡ Ok (record { kind = t.kind; span = t.span; number = None })) (sym begins) (e ∙ ap (λ u. Ok u) same);
        }
