-- Which bytes settle the tokens before them.
use Rattle.std.proofs.Common.{◌≡◌, ℕ, zero, suc, ◌+◌, ◌-◌, ◌<◌, ◌≤◌, Bool, true, false, List, [], ◌∷◌, ◌++◌, length, length-drop, take, drop, Option, Some, None, Result, Ok, Err, refl, sym, ap, subst, ◌∙◌, arith}
use Rattle.std.specs.Prelude.{if◌then◌else◌}
use Rattle.std.proofs.lemmas.List.{drop-append-le}
use Rattle.spec_syntax.specs.declared.grammar.Kind.{Kind}
use Rattle.spec_syntax.specs.declared.grammar.Kind.TheVariants.{Name, Quoted, Codes, Variable, Numeral, Punctuation, End, Eof}
use Rattle.spec_numbers.specs.Rational.{ℚ}
use Rattle.spec_syntax.specs.declared.grammar.LexFault.{LexFault}
use Rattle.spec_syntax.specs.declared.grammar.LexFault.TheVariants.{BadByte, WideNumber}
use Rattle.spec_syntax.specs.Characters.{begins, begins_with}
use Rattle.spec_syntax.specs.Numerals.{Spelling, spelling, value, is_wide, goes_on_as_float}
use Rattle.spec_syntax.specs.Gaps.{place}
use Rattle.spec_syntax.specs.Quotes.{quoted, in_front, ends, Quoted as InQuotes}
use Rattle.spec_syntax.specs.GrammarTokens.{Token, numeral, next_token, quotes_at}
use Rattle.spec_syntax.specs.Laws.{behind, looks, settles, IsZeroBeforeQuote}
use Rattle.spec_syntax.proofs.Held.{IsQuoting, quotes_hold, next_in_quotes}
use Rattle.spec_syntax.proofs.Bounds.{Within, quoted_within}
use Rattle.spec_syntax.proofs.KeptQuotes.{Settling, settling, Asks, quoted_kept, escape_settled}
use Rattle.spec_syntax.proofs.KeptNumerals.{spelling_kept, spelling_settled, float_kept, float_settled}
use Rattle.spec_syntax.proofs.KeptTokens.{AsksToken, number_kept, next_kept, KeepsNumeral}

-- a byte that settles does so for every token and fault before it
pub all_settled : (text rest other : List ℕ) (at c : ℕ) → settles c ≡ true → behind (next_token (text ++ c ∷ rest) at) ≤ length text → next_token (text ++ c ∷ other) at ≡ next_token (text ++ c ∷ rest) at
all_settled text rest other at c e fits = next_kept c s.small rest other P (length text) asked (λ q at f p is. escape_settled c s.small rest other q at s ∙ is) text at refl number fits
  where
    s : Settling c
    s = settling c e

    P : Result Token LexFault → Type 0
    P r = behind r ≤ length text

    asked : AsksToken P (length text)
    asked = record { ends_by = λ t p. p; faults_before = λ f p. omega (arith, p) }

    number : (start b : ℕ) (bs : List ℕ) → drop start text ≡ b ∷ bs → start ≤ length text → KeepsNumeral c s.small rest other P (length text) asked (λ q at f p is. escape_settled c s.small rest other q at s ∙ is) b bs start
    number start b bs split h digit p =
        ap (λ n. numeral n (b ∷ (bs ++ c ∷ other)) start) (spelling_settled c s.small rest other b bs s)
        ∙ number_kept c s.small rest other P (length text) asked (spelling (b ∷ (bs ++ c ∷ rest))) (b ∷ bs) start (omega (arith, length-drop start text, ap length split))
        (λ le q. float_settled c s.small rest other (spelling (b ∷ (bs ++ c ∷ rest))).size (b ∷ bs) le s) p

looks_least : (kind : Kind) → 1 ≤ looks kind
looks_least Name = omega arith
looks_least Quoted = omega arith
looks_least Codes = omega arith
looks_least Variable = omega arith
looks_least Numeral = omega arith
looks_least Punctuation = omega arith
looks_least End = omega arith
looks_least Eof = omega arith

-- a token that looks no further than one byte past this place, and is no 0 before a quote
abbrev Looked : ℕ → List ℕ → Result Token LexFault → Type 0
Looked end text (Ok t) = (t.span.end + looks t.kind ≤ end + 1) × (IsZeroBeforeQuote text t → ⊥)
Looked end text (Err f) = ⊥

-- the token of a numeral
abbrev numeral_token : Spelling → ℕ → Token
numeral_token s at = record { kind = Numeral; span = record { start = at; end = at + s.size }; number = Some (value s) }

number_looked : (end : ℕ) (text : List ℕ) (s : Spelling) (bs : List ℕ) (at : ℕ) → Looked end text (numeral s bs at) → Looked end text (Ok (numeral_token s at))
number_looked end text s bs at = by (is_wide s) (goes_on_as_float (drop s.size bs))
  where
    by : (wide float : Bool) → Looked end text (if wide then Err (WideNumber at) else if float then Err (BadByte (at + s.size)) else Ok (numeral_token s at)) → Looked end text (Ok (numeral_token s at))
    by true float h = absurd h
    by false true h = absurd h
    by false false h = h

drop_next : (n : ℕ) (xs : List ℕ) (b : ℕ) (bs : List ℕ) → drop n xs ≡ b ∷ bs → drop (suc n) xs ≡ bs
drop_next zero [] b bs e = absurd (cc)
drop_next (suc n) [] b bs e = absurd (cc)
drop_next zero (x ∷ xs) b bs e = cc
drop_next (suc n) (x ∷ xs) b bs e = drop_next n xs b bs e

zero_before_quote : (text : List ℕ) (start size b : ℕ) (bs : List ℕ) (number : Option ℚ) → drop start text ≡ b ∷ bs → begins_with 39 bs ≡ true → size ≡ 1 → b ≡ 48
    → IsZeroBeforeQuote text (record { kind = Numeral; span = record { start = start; end = start + size }; number = number })
zero_before_quote text start size b bs number stands quote one zero_digit =
    let width : start + size - start ≡ 1 = omega arith in
    let behind_it : drop (start + size) text ≡ bs = let e : start + size ≡ suc start = omega arith in ap (λ n. drop n text) e ∙ drop_next start text b bs stands in (
      refl,
      ap (λ n. take n (drop start text)) width ∙ ap (take 1) stands ∙ ap (λ n. n ∷ []) zero_digit,
      ap (begins_with 39) behind_it ∙ quote,
    )

-- one byte settles a token before it, or two a numeral
pub token_settled : (text rest other : List ℕ) (at c : ℕ) (t : Token) → c < 128 → next_token (text ++ c ∷ rest) at ≡ Ok t → t.span.end + looks t.kind ≤ length text + 1 → (IsZeroBeforeQuote (text ++ c ∷ rest) t → ⊥)
    → next_token (text ++ c ∷ other) at ≡ Ok t
token_settled text rest other at c t small is fits no_zero =
    next_kept c small rest other P (length text) asked (λ q at f p is. absurd p) text at refl number (subst P (sym is) (fits, no_zero)) ∙ is
  where
    P : Result Token LexFault → Type 0
    P r = Looked (length text) (text ++ c ∷ rest) r

    asked : AsksToken P (length text)
    asked = record { ends_by = λ u p. omega (arith, p.0, looks_least u.kind); faults_before = λ f p. absurd p }

    number : (start b : ℕ) (bs : List ℕ) → drop start text ≡ b ∷ bs → start ≤ length text → KeepsNumeral c small rest other P (length text) asked (λ q at f p is. absurd p) b bs start
    number start b bs split h digit p =
        let size = (spelling (b ∷ (bs ++ c ∷ rest))).size in
        let looked = number_looked (length text) (text ++ c ∷ rest) (spelling (b ∷ (bs ++ c ∷ rest))) (b ∷ (bs ++ c ∷ rest)) start p in
        let here : length text ≡ start + length (b ∷ bs) = omega (arith, length-drop start text, ap length split) in
        let stands : drop start (text ++ c ∷ rest) ≡ b ∷ (bs ++ c ∷ rest) = drop-append-le start text (c ∷ rest) h ∙ ap (λ q. q ++ c ∷ rest) split in
        let short : size ≤ length bs = omega (arith, looked.0) in
        ap (λ n. numeral n (b ∷ (bs ++ c ∷ other)) start)
        (spelling_kept c small rest other b bs digit short (λ quote one zero_digit. looked.1 (zero_before_quote (text ++ c ∷ rest) start size b (bs ++ c ∷ rest) (Some (value (spelling (b ∷ (bs ++ c ∷ rest))))) stands quote one zero_digit)))
        ∙ number_kept c small rest other P (length text) asked (spelling (b ∷ (bs ++ c ∷ rest))) (b ∷ bs) start here (λ le q. float_kept c small rest other size (b ∷ bs) (omega arith)) p

-- what stands directly behind a token
pub directly : (test : ℕ → Bool) (text rest other : List ℕ) (c : ℕ) (t : Token) → t.span.end ≤ length text → begins test (drop t.span.end (text ++ c ∷ other)) ≡ begins test (drop t.span.end (text ++ c ∷ rest))
directly test text rest other c t fits =
    ap (begins test) (drop-append-le t.span.end text (c ∷ other) fits) ∙ same (drop t.span.end text) ∙ sym (ap (begins test) (drop-append-le t.span.end text (c ∷ rest) fits))
  where
    same : (q : List ℕ) → begins test (q ++ c ∷ other) ≡ begins test (q ++ c ∷ rest)
    same [] = refl
    same (b ∷ q) = refl

-- quotes that end by this place, or a fault in them that stands before it
abbrev EndsBy : ℕ → Result InQuotes LexFault → Type 0
EndsBy end (Ok held) = held.stop ≤ end
EndsBy end (Err f) = place f < end

ends_inside : (end : ℕ) (k : Option ℕ) (r : Result InQuotes LexFault) → EndsBy end (in_front k r) → EndsBy end r
ends_inside end k (Ok held) p = p
ends_inside end k (Err f) p = p

no_quotes : {f : LexFault} {held : InQuotes} → Err f ≡ Ok held → ⊥
no_quotes e = cc

-- quotes end behind the place where they begin
stops_past : (bs : List ℕ) (at : ℕ) (held : InQuotes) → quotes_at bs at ≡ Ok held → at < held.stop
stops_past [] at held e = absurd (no_quotes e)
stops_past (b ∷ bs) at held e =
    let w : Within (at + 1) (at + 1 + length bs) (ends (Ok held)) = subst (λ r. Within (at + 1) (at + 1 + length bs) (ends r)) e (quoted_within b 0 bs (at + 1)) in
    omega (arith, w.0)

-- a byte that settles does so for what quotes before it hold
pub held_settled : (text rest other : List ℕ) (at c : ℕ) (t : Token) → settles c ≡ true → next_token (text ++ c ∷ rest) at ≡ Ok t → IsQuoting t.kind → t.span.end ≤ length text
    → quotes_at (drop t.span.start (text ++ c ∷ other)) t.span.start ≡ quotes_at (drop t.span.start (text ++ c ∷ rest)) t.span.start
held_settled text rest other at c t e found quoting fits =
    let start = t.span.start in
    let there = (next_in_quotes (text ++ c ∷ rest) at t found quoting).token in
    let here = quotes_hold (drop start (text ++ c ∷ rest)) start (record { kind = (next_in_quotes (text ++ c ∷ rest) at t found quoting).kind; span = t.span; number = None }) there (next_in_quotes (text ++ c ∷ rest) at t found quoting).quotes in
    let stops : here.0.stop ≡ t.span.end = sym (ap (λ (u : Token). u.span.end) here.2) in
    by (drop start text) refl (quotes_at (drop start (text ++ c ∷ rest)) start) refl here.0 here.1 (omega (arith, stops, fits))
  where
    s : Settling c
    s = settling c e

    asked : Asks (EndsBy (length text)) (length text)
    asked = record { ends_by = λ held p. p; faults_before = λ f p. p; inside = ends_inside (length text) }

    split_at : (start : ℕ) (more : List ℕ) → start ≤ length text → drop start (text ++ c ∷ more) ≡ drop start text ++ c ∷ more
    split_at start more h = drop-append-le start text (c ∷ more) h

    by : (q : List ℕ) → drop t.span.start text ≡ q → (r : Result InQuotes LexFault) → quotes_at (drop t.span.start (text ++ c ∷ rest)) t.span.start ≡ r → (held : InQuotes) → r ≡ Ok held → held.stop ≤ length text →
        quotes_at (drop t.span.start (text ++ c ∷ other)) t.span.start ≡ quotes_at (drop t.span.start (text ++ c ∷ rest)) t.span.start
    by [] split r is held ok stop =
        absurd (omega (arith, stops_past (drop t.span.start (text ++ c ∷ rest)) t.span.start held (is ∙ ok), length-drop t.span.start text, ap length split, stop))
    by (b ∷ q) split r is held ok stop =
        let inside : t.span.start ≤ length text = omega (arith, length-drop t.span.start text, ap length split) in
        let mine : drop t.span.start (text ++ c ∷ rest) ≡ b ∷ (q ++ c ∷ rest) = split_at t.span.start rest inside ∙ ap (λ bs. bs ++ c ∷ rest) split in
        let theirs : drop t.span.start (text ++ c ∷ other) ≡ b ∷ (q ++ c ∷ other) = split_at t.span.start other inside ∙ ap (λ bs. bs ++ c ∷ other) split in
        let end : length text ≡ t.span.start + 1 + length q = omega (arith, length-drop t.span.start text, ap length split) in
        let ends : EndsBy (length text) (quoted b 0 (q ++ c ∷ rest) (t.span.start + 1)) = subst (λ bs. EndsBy (length text) (quotes_at bs t.span.start)) mine (subst (EndsBy (length text)) (sym (is ∙ ok)) stop) in
        ap (λ bs. quotes_at bs t.span.start) theirs
        ∙ quoted_kept c s.small rest other (EndsBy (length text)) (length text) asked (λ p at f h is. escape_settled c s.small rest other p at s ∙ is) b 0 q (t.span.start + 1) end ends
        ∙ sym (ap (λ bs. quotes_at bs t.span.start) mine)
