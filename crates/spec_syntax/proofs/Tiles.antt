-- The tokens tile a text.
use Rattle.std.proofs.Common.{◌≡◌, ◌≢◌, ℕ, ◌+◌, ◌<◌, ◌≤◌, Bool, true, false, List, [], ◌∷◌, drop, length, length-drop, Result, Ok, Err, refl, sym, ap, subst, ◌∙◌, arith}
use Rattle.std.specs.Prelude.{◌==◌, ◌||◌, ◌&&◌, if◌then◌else◌}
use Rattle.std.specs.Char.{is_ascii_digit}
use Rattle.std.specs.Str.{continuation_len}
use Rattle.std.specs.List.{prefix_len}
use Rattle.spec_syntax.specs.declared.grammar.Kind.{Kind}
use Rattle.spec_syntax.specs.declared.grammar.Kind.TheVariants.{Name, Quoted, Codes, Variable, Numeral, Punctuation, End, Eof}
use Rattle.spec_syntax.specs.declared.grammar.Gap.TheVariants.{Between}
use Rattle.spec_syntax.specs.declared.grammar.LexFault.{LexFault}
use Rattle.spec_syntax.specs.Characters.{is_symbol, is_punctuation, first_char, passes, starts_name, starts_variable, begins_with}
use Rattle.spec_syntax.specs.Gaps.{place, gap}
use Rattle.spec_syntax.specs.Quotes.{Quoted as InQuotes, ends}
use Rattle.spec_syntax.specs.Numerals.{Spelling, spelling, is_wide, goes_on_as_float}
use Rattle.spec_syntax.specs.GrammarTokens.{Token, token, ends_clause, in_quotes, numeral, token_at, token_behind, next_token}
use Rattle.spec_syntax.specs.Laws.{Stands}
use Rattle.spec_syntax.proofs.Bounds.{Within, gap_within, name_within, prefix_within, quoted_within}
use Rattle.spec_syntax.proofs.Sizes.{Sized, spelling_sized}

-- a token that begins a text of so many bytes, which stands at this place
pub record Begins (len at : ℕ) (t : Token) : Type 0 where
  pub begins : t.span.start ≡ at
  pub takes : t.kind ≢ Eof → at < t.span.end
  pub within : t.span.end ≤ at + len
  pub at_the_end : t.kind ≡ Eof → (len ≡ 0) × (t.span.end ≡ at)

abbrev pub BeginsAt : ℕ → ℕ → Result Token LexFault → Type 0
BeginsAt len at (Ok t) = Begins len at t
BeginsAt len at (Err f) = (at ≤ place f) × (place f ≤ at + len)

-- a token that takes bytes
takes_some : (len at end : ℕ) (kind : Kind) → kind ≢ Eof → at < end → end ≤ at + len → BeginsAt len at (Ok (token kind at end))
takes_some len at end kind other some fits = record { begins = refl; takes = λ k. some; within = fits; at_the_end = λ k. absurd (other k) }

module _ (len at : ℕ) where
  -- of a choice, where the first is looked at under its test
  choice : (b : Bool) (x y : Result Token LexFault) → (b ≡ true → BeginsAt len at x) → BeginsAt len at y → BeginsAt len at (if b then x else y)
  choice true x y h k = h refl
  choice false x y h k = k

  symbols_begin : (n : ℕ) (end : Bool) → 1 ≤ n → n ≤ len → BeginsAt len at (Ok (token (if end then End else Name) at (at + n)))
  symbols_begin n true some fits = takes_some len at (at + n) End (λ e. cc) (omega arith) (omega arith)
  symbols_begin n false some fits = takes_some len at (at + n) Name (λ e. cc) (omega arith) (omega arith)

  number_begins : (s : Spelling) (bs : List ℕ) → Sized len s → BeginsAt len at (numeral s bs at)
  number_begins s bs sized =
      choice (is_wide s) _ _ (λ e. (omega arith, omega arith))
      (choice (goes_on_as_float (drop s.size bs)) _ _ (λ e. (omega arith, omega (arith, sized.1)))
      (record { begins = refl; takes = λ k. omega (arith, sized.0); within = omega (arith, sized.1); at_the_end = λ k. absurd (other k) }))
    where
      other : Numeral ≡ Eof → ⊥
      other e = cc

  quotes_begin : (kind : Kind) (n : ℕ) (q : Result InQuotes LexFault) → kind ≢ Eof → 1 + n ≤ len → Within (at + 1) (at + 1 + n) (ends q) → BeginsAt len at (in_quotes kind at q)
  quotes_begin kind n (Ok held) other fits w = takes_some len at held.stop kind other (omega (arith, w.0)) (omega (arith, w.1))
  quotes_begin kind n (Err f) other fits w = (omega (arith, w.0), omega (arith, w.1))

symbols_some : (b : ℕ) (bs : List ℕ) → is_symbol b ≡ true → 1 ≤ prefix_len is_symbol (b ∷ bs)
symbols_some b bs e = rw e (omega arith)

pub token_begins : (bs : List ℕ) (at : ℕ) → BeginsAt (length bs) at (token_at bs at)
token_begins [] at = record { begins = refl; takes = λ k. absurd (k refl); within = omega arith; at_the_end = λ k. (refl, refl) }
token_begins (b ∷ bs) at =
    choice len at (passes starts_name (first_char (b ∷ bs))) _ _
    (λ e. let w = name_within (continuation_len b) bs (at + 1) in takes_some len at _ Name (λ e. cc) (omega (arith, w.0)) (omega (arith, w.1)))
    (choice len at (starts_variable b) _ _ (λ e. let w = name_within 0 bs (at + 1) in takes_some len at _ Variable (λ e. cc) (omega (arith, w.0)) (omega (arith, w.1)))
    (choice len at (is_symbol b) _ _
    (λ e. symbols_begin len at (prefix_len is_symbol (b ∷ bs)) (begins_with 46 (b ∷ bs) && (prefix_len is_symbol (b ∷ bs) == 1) && ends_clause (drop (prefix_len is_symbol (b ∷ bs)) (b ∷ bs)))
    (symbols_some b bs e) (prefix_within is_symbol (b ∷ bs)))
    (choice len at ((b == 33) || (b == 59)) _ _ (λ e. takes_some len at _ Name (λ e. cc) (omega arith) (omega arith))
    (choice len at (is_punctuation b) _ _ (λ e. takes_some len at _ Punctuation (λ e. cc) (omega arith) (omega arith))
    (choice len at (b == 39) _ _ (λ e. quotes_begin len at Quoted (length bs) _ (λ e. cc) (omega arith) (quoted_within b 0 bs (at + 1)))
    (choice len at (b == 34) _ _ (λ e. quotes_begin len at Codes (length bs) _ (λ e. cc) (omega arith) (quoted_within b 0 bs (at + 1)))
    (choice len at (is_ascii_digit b) _ _ (λ e. number_begins len at (spelling (b ∷ bs)) (b ∷ bs) (spelling_sized b bs e)) (omega arith, omega arith))))))))
  where
    len : ℕ
    len = length (b ∷ bs)

-- from every place on there is a token, or a fault within the text
pub stands : (text : List ℕ) (at : ℕ) → at ≤ length text → Stands text at (next_token text at)
stands text at fits = by (gap Between (drop at text) at) refl (subst (λ n. Within at n (gap Between (drop at text) at)) whole (gap_within Between (drop at text) at))
  where
    whole : at + length (drop at text) ≡ length text
    whole = omega (arith, length-drop at text, fits)

    by : (r : Result ℕ LexFault) → gap Between (drop at text) at ≡ r → Within at (length text) r → Stands text at (token_behind text r)
    by (Err f) e w = w
    by (Ok start) e w = here (token_at (drop start text) start) (token_begins (drop start text) start)
      where
        rest : start + length (drop start text) ≡ length text
        rest = omega (arith, length-drop start text, w.1)

        here : (r : Result Token LexFault) → BeginsAt (length (drop start text)) start r → Stands text at r
        here (Err f) h = (omega (arith, h.0, w.0), omega (arith, h.1, rest))
        here (Ok t) h = record {
          behind = omega (arith, h.begins, w.0);
          between = e ∙ ap (λ n. Ok n) (sym h.begins);
          takes = λ k. omega (arith, h.begins, h.takes k);
          within = omega (arith, h.within, rest);
          at_the_end = λ k. let end = h.at_the_end k in (omega (arith, h.begins, end.0, rest), omega (arith, end.0, end.1, rest));
        }
