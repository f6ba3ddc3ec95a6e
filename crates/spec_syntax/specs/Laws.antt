-- What holds of every token and every fault of a text.
use Rattle.std.specs.Prelude.{◌≡◌, ◌≢◌, ℕ, zero, suc, ◌+◌, ◌<◌, ◌≤◌, nat_lt, codes, Bool, true, not, ◌&&◌, ◌==◌, List, [], ◌∷◌, drop, length, Result, Ok, Err}
use Rattle.std.specs.Char.{is_digit}
use Rattle.std.specs.List.{list_any}
use Rattle.std.specs.Str.{continuation_len}
use Rattle.spec_syntax.specs.declared.grammar.Kind.{Kind}
use Rattle.spec_syntax.specs.declared.grammar.Kind.TheVariants.{Numeral, Eof}
use Rattle.spec_syntax.specs.declared.grammar.Gap.TheVariants.{Between}
use Rattle.spec_syntax.specs.declared.grammar.LexFault.{LexFault}
use Rattle.spec_syntax.specs.Characters.{first_char, passes, continues_name, begins_with}
use Rattle.spec_syntax.specs.Gaps.{place, gap}
use Rattle.spec_syntax.specs.GrammarTokens.{Token, bytes_of}

-- The next token from this place on. Only layout and comments stand before it; it takes at least one byte of the text, or is
-- the text's end, where nothing else stands. So the tokens, each from the place behind the one before, tile the text.
pub record IsNext (text : List ℕ) (at : ℕ) (t : Token) : Type 0 where
  pub behind : at ≤ t.span.start
  pub between : gap Between (drop at text) at ≡ Ok t.span.start
  pub takes : t.kind ≢ Eof → t.span.start < t.span.end
  pub within : t.span.end ≤ length text
  pub at_the_end : t.kind ≡ Eof → (t.span.start ≡ length text) × (t.span.end ≡ length text)

-- from this place on there is a token, or a fault stands from this place to the text's end
abbrev pub Stands : List ℕ → ℕ → Result Token LexFault → Type 0
Stands text at (Ok t) = IsNext text at t
Stands text at (Err f) = (at ≤ place f) × (place f ≤ length text)

-- each byte passes the test
abbrev pub AllPass : (ℕ → Bool) → List ℕ → Type 0
AllPass test [] = Unit {0}
AllPass test (b ∷ bs) = (test b ≡ true) × AllPass test bs

-- whole characters that continue a name, of which the first `skip` bytes belong to the character before
abbrev pub Continues : ℕ → List ℕ → Type 0
Continues zero [] = Unit {0}
Continues (suc skip) [] = ⊥
Continues zero (b ∷ bs) = (passes continues_name (first_char (b ∷ bs)) ≡ true) × (continuation_len b ≤ length bs) × Continues (continuation_len b) bs
Continues (suc skip) (b ∷ bs) = Continues skip bs

-- the place behind a token, or behind the byte at which a fault stands
abbrev pub behind : Result Token LexFault → ℕ
behind (Ok t) = t.span.end
behind (Err f) = place f + 1

-- How many bytes behind its own a token looks at: one, and a numeral two, since `r`, `.`, `0x`, `0o` and `0b` go on with it only
-- before a digit. A name looks at the whole character behind it, which is one byte where that is below 128.
abbrev pub looks : Kind → ℕ
looks Numeral = 2
looks _ = 1

-- The token is 0, and a quote stands directly behind it. It looks over the character or the whole escape behind the quote, which
-- turns out not to fit.
abbrev pub IsZeroBeforeQuote : List ℕ → Token → Type 0
IsZeroBeforeQuote text t = (t.kind ≡ Numeral) × (bytes_of text t.span ≡ codes "0") × (begins_with 39 (drop t.span.end text) ≡ true)

-- A byte with which no numeral and no escape goes on before it is whole: one below 128 that is no hexadecimal digit and none of
-- `r x o . ' \`. A token goes on with such a byte only by taking it.
abbrev pub settles : ℕ → Bool
settles c = nat_lt c 128 && not (is_digit c 16) && not (list_any (λ s. s == c) (codes "rxo.'\\"))
