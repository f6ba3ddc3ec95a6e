-- Tokens and faults before a byte below 128 are the same, whatever comes after that byte.
use Rattle.std.proofs.Common.{◌≡◌, ℕ, ◌+◌, ◌<◌, ◌≤◌, Bool, true, false, List, [], ◌∷◌, ◌++◌, length, length-append, length-drop, drop, nat_lt, Option, Some, Result, Ok, Err, refl, sym, ap, subst, ◌∙◌, arith}
use Rattle.std.specs.Prelude.{◌==◌, ◌||◌, ◌&&◌, if◌then◌else◌}
use Rattle.std.specs.Char.{is_ascii_digit}
use Rattle.std.specs.List.{prefix_len}
use Rattle.std.specs.Str.{continuation_len}
use Rattle.std.proofs.lemmas.Bool.Decides.{nat_tests}
use Rattle.std.proofs.lemmas.List.{drop-append-le}
use Rattle.spec_syntax.specs.declared.grammar.Kind.{Kind}
use Rattle.spec_syntax.specs.declared.grammar.Kind.TheVariants.{Name, Quoted, Codes, Variable, Numeral, End, Eof}
use Rattle.spec_syntax.specs.declared.grammar.Gap.TheVariants.{Between}
use Rattle.spec_syntax.specs.declared.grammar.LexFault.{LexFault}
use Rattle.spec_syntax.specs.declared.grammar.LexFault.TheVariants.{BadByte, WideNumber}
use Rattle.spec_syntax.specs.Characters.{is_symbol, is_punctuation, first_char, passes, starts_name, starts_variable, name_end}
use Rattle.spec_syntax.specs.Gaps.{place, gap}
use Rattle.spec_syntax.specs.Quotes.{escape, quoted, in_front, Quoted as InQuotes}
use Rattle.spec_syntax.specs.Numerals.{Spelling, spelling, value, is_wide, goes_on_as_float}
use Rattle.spec_syntax.specs.GrammarTokens.{Token, token, ends_clause, symbols, in_quotes, numeral, token_at, token_behind, next_token}
use Rattle.spec_syntax.proofs.Bounds.{Within, gap_within}
use Rattle.spec_syntax.proofs.Tiles.{BeginsAt, token_begins}
use Rattle.spec_syntax.proofs.Kept.{if_kept, if_seen, first_kept, prefix_kept, name_kept, gap_kept, reached}
use Rattle.spec_syntax.proofs.KeptQuotes.{Asks, quoted_kept}

-- what is asked of an answer: a token ends by this place, and a fault stands before it
pub record AsksToken (P : Result Token LexFault → Type 0) (end : ℕ) : Type 0 where
  pub ends_by : (t : Token) → P (Ok t) → t.span.end ≤ end
  pub faults_before : (f : LexFault) → P (Err f) → place f < end

module _ (c : ℕ) (small : c < 128) (rest other : List ℕ) (P : Result Token LexFault → Type 0) (end : ℕ) (asks : AsksToken P end) where
  -- a token that is asked for, or a fault, begins before the place by which it ends
  starts_before : (bs : List ℕ) (at : ℕ) → (length bs ≡ 0 → end < at) → P (token_at bs at) → at < end
  starts_before [] at none p = let ends = asks.ends_by (token Eof at at) p in absurd (omega (arith, none refl))
  starts_before (b ∷ bs) at none p = by (token_at (b ∷ bs) at) (token_begins (b ∷ bs) at) p
    where
      by : (r : Result Token LexFault) → BeginsAt (length (b ∷ bs)) at r → P r → at < end
      by (Ok t) begins p =
          let ends = asks.ends_by t p in
          let takes : at < t.span.end = begins.takes (λ k. let none = (begins.at_the_end k).0 in absurd (omega arith)) in
          omega arith
      by (Err f) begins p = let before = asks.faults_before f p in omega (arith, begins.0)

  ends_kept : (q : List ℕ) → ends_clause (q ++ c ∷ other) ≡ ends_clause (q ++ c ∷ rest)
  ends_kept [] = refl
  ends_kept (b ∷ q) = refl

  symbols_kept : (b : ℕ) (q : List ℕ) (at : ℕ) → end ≡ at + length (b ∷ q)
      → P (Ok (symbols (prefix_len is_symbol (b ∷ (q ++ c ∷ rest))) (b ∷ (q ++ c ∷ rest)) at))
      → (let r : Result Token LexFault = Ok (symbols (prefix_len is_symbol (b ∷ (q ++ c ∷ other))) (b ∷ (q ++ c ∷ other)) at) in r ≡ Ok (symbols (prefix_len is_symbol (b ∷ (q ++ c ∷ rest))) (b ∷ (q ++ c ∷ rest)) at))
  symbols_kept b q at e p =
      let len = prefix_len is_symbol (b ∷ (q ++ c ∷ rest)) in
      let ends : at + len ≤ end = asks.ends_by (symbols len (b ∷ (q ++ c ∷ rest)) at) p in
      let fits : len ≤ length (b ∷ q) = omega arith in
      let same : prefix_len is_symbol (b ∷ (q ++ c ∷ other)) ≡ len = prefix_kept c small rest other is_symbol (b ∷ q) fits in
      let end_same : ends_clause (drop len (b ∷ (q ++ c ∷ other))) ≡ ends_clause (drop len (b ∷ (q ++ c ∷ rest))) =
      ap ends_clause (drop-append-le len (b ∷ q) (c ∷ other) fits) ∙ ends_kept (drop len (b ∷ q)) ∙ sym (ap ends_clause (drop-append-le len (b ∷ q) (c ∷ rest) fits)) in
      ap (λ n. Ok (symbols n (b ∷ (q ++ c ∷ other)) at)) same
      ∙ ap (λ stop. Ok (token (if (b == 46) && (len == 1) && stop then End else Name) at (at + len))) end_same

  quotes_kept : (kind : Kind) (quote : ℕ) (q : List ℕ) (at : ℕ) → end ≡ at + 1 + length q
      → ((q : List ℕ) (at : ℕ) (f : LexFault) → P (Err f) → escape (q ++ c ∷ rest) at ≡ Err f → escape (q ++ c ∷ other) at ≡ Err f)
      → P (in_quotes kind at (quoted quote 0 (q ++ c ∷ rest) (at + 1))) → in_quotes kind at (quoted quote 0 (q ++ c ∷ other) (at + 1)) ≡ in_quotes kind at (quoted quote 0 (q ++ c ∷ rest) (at + 1))
  quotes_kept kind quote q at e faulty p =
      ap (in_quotes kind at) (quoted_kept c small rest other (λ r. P (in_quotes kind at r)) end asked faulty quote 0 q (at + 1) e p)
    where
      inside : (k : Option ℕ) (r : Result InQuotes LexFault) → P (in_quotes kind at (in_front k r)) → P (in_quotes kind at r)
      inside k (Ok held) p = p
      inside k (Err f) p = p

      asked : Asks (λ r. P (in_quotes kind at r)) end
      asked = record {
        ends_by = λ held p. asks.ends_by (token kind at held.stop) p;
        faults_before = λ f p. asks.faults_before f p;
        inside = inside;
      }

  -- a numeral that is spelled the same
  pub number_kept : (s : Spelling) (q : List ℕ) (at : ℕ) → end ≡ at + length q → (s.size ≤ length q → P (numeral s (q ++ c ∷ rest) at) → goes_on_as_float (drop s.size (q ++ c ∷ other)) ≡ goes_on_as_float (drop s.size (q ++ c ∷ rest)))
      → P (numeral s (q ++ c ∷ rest) at) → numeral s (q ++ c ∷ other) at ≡ numeral s (q ++ c ∷ rest) at
  number_kept s q at e float p = by (is_wide s) (nat_lt (length q) s.size) refl float p
    where
      number : Bool → Bool → Result Token LexFault
      number wide float =
          if wide then Err (WideNumber at) else if float then Err (BadByte (at + s.size)) else Ok (record { kind = Numeral; span = record { start = at; end = at + s.size }; number = Some (value s) })

      too_long : (float : Bool) → length q < s.size → P (number false float) → ⊥
      too_long true h p = omega (arith, asks.faults_before (BadByte (at + s.size)) p)
      too_long false h p = omega (arith, asks.ends_by (record { kind = Numeral; span = record { start = at; end = at + s.size }; number = Some (value s) }) p)

      by : (wide long : Bool) → nat_lt (length q) s.size ≡ long
          → (s.size ≤ length q → P (number wide (goes_on_as_float (drop s.size (q ++ c ∷ rest)))) → goes_on_as_float (drop s.size (q ++ c ∷ other)) ≡ goes_on_as_float (drop s.size (q ++ c ∷ rest)))
          → P (number wide (goes_on_as_float (drop s.size (q ++ c ∷ rest)))) → number wide (goes_on_as_float (drop s.size (q ++ c ∷ other))) ≡ number wide (goes_on_as_float (drop s.size (q ++ c ∷ rest)))
      by true long l float p = refl
      by false true l float p = let lt : length q < s.size = grind (arith, nat_tests) in absurd (too_long (goes_on_as_float (drop s.size (q ++ c ∷ rest))) lt p)
      by false false l float p = let le : s.size ≤ length q = grind (arith, nat_tests) in ap (number false) (float le p)

  module _ (faulty : (q : List ℕ) (at : ℕ) (f : LexFault) → P (Err f) → escape (q ++ c ∷ rest) at ≡ Err f → escape (q ++ c ∷ other) at ≡ Err f) where
    -- the numeral that begins a text is the same
    abbrev pub KeepsNumeral : ℕ → List ℕ → ℕ → Type 0
    KeepsNumeral b q at =
        is_ascii_digit b ≡ true → P (numeral (spelling (b ∷ (q ++ c ∷ rest))) (b ∷ (q ++ c ∷ rest)) at)
        → numeral (spelling (b ∷ (q ++ c ∷ other))) (b ∷ (q ++ c ∷ other)) at ≡ numeral (spelling (b ∷ (q ++ c ∷ rest))) (b ∷ (q ++ c ∷ rest)) at

    token_kept : (q : List ℕ) (at : ℕ) → end ≡ at + length q → ((b : ℕ) (bs : List ℕ) → q ≡ b ∷ bs → KeepsNumeral b bs at) → P (token_at (q ++ c ∷ rest) at) → token_at (q ++ c ∷ other) at ≡ token_at (q ++ c ∷ rest) at
    token_kept [] at e number p = absurd (omega (arith, starts_before (c ∷ rest) at (λ none. absurd (omega arith)) p))
    token_kept (b ∷ q) at e number p =
        rw (first_kept c small rest other b q)
        (if_kept P (passes starts_name (first_char (b ∷ (q ++ c ∷ rest)))) _ _ _ _ (name Name (continuation_len b))
        (if_kept P (starts_variable b) _ _ _ _ (name Variable 0)
        (if_kept P (is_symbol b) _ _ _ _ (symbols_kept b q at e)
        (if_kept P ((b == 33) || (b == 59)) _ _ _ _ (λ h. refl)
        (if_kept P (is_punctuation b) _ _ _ _ (λ h. refl)
        (if_kept P (b == 39) _ _ _ _ (quotes_kept Quoted b q at (omega arith) faulty)
        (if_kept P (b == 34) _ _ _ _ (quotes_kept Codes b q at (omega arith) faulty)
        (if_seen P (is_ascii_digit b) _ _ _ _ (number b q refl) (λ h. refl)))))))) p)
      where
        name : (kind : Kind) (skip : ℕ) → P (Ok (token kind at (name_end skip (q ++ c ∷ rest) (at + 1))))
            → (let r : Result Token LexFault = Ok (token kind at (name_end skip (q ++ c ∷ other) (at + 1))) in r ≡ Ok (token kind at (name_end skip (q ++ c ∷ rest) (at + 1))))
        name kind skip h =
            ap (λ n. Ok (token kind at n)) (name_kept c small rest other skip q (at + 1) end (omega arith) (asks.ends_by (token kind at (name_end skip (q ++ c ∷ rest) (at + 1))) h))

    -- the next token of a text that ends before the byte
    pub next_kept : (text : List ℕ) (at : ℕ) → end ≡ length text → ((start b : ℕ) (bs : List ℕ) → drop start text ≡ b ∷ bs → start ≤ end → KeepsNumeral b bs start)
        → P (next_token (text ++ c ∷ rest) at) → next_token (text ++ c ∷ other) at ≡ next_token (text ++ c ∷ rest) at
    next_kept text at e number p = found (fits (gap Between (drop at (text ++ c ∷ rest)) at) (gap_within Between (drop at (text ++ c ∷ rest)) at) p)
      where
        starts : (start : ℕ) → P (token_at (drop start (text ++ c ∷ rest)) start) → start < end
        starts start h =
            starts_before (drop start (text ++ c ∷ rest)) start (λ none. omega (arith, none, e, length-drop start (text ++ c ∷ rest), length-append text (c ∷ rest))) h

        fits : (r : Result ℕ LexFault) → Within at (at + length (drop at (text ++ c ∷ rest))) r → P (token_behind (text ++ c ∷ rest) r) → at ≤ end
        fits (Err f) w h = omega (arith, w.0, asks.faults_before f h)
        fits (Ok start) w h = omega (arith, w.0, starts start h)

        behind : (r : Result ℕ LexFault) → at ≤ end → gap Between (drop at text ++ c ∷ rest) at ≡ r → P (token_behind (text ++ c ∷ rest) r)
            → token_behind (text ++ c ∷ other) (gap Between (drop at text ++ c ∷ other) at) ≡ token_behind (text ++ c ∷ rest) r
        behind (Err f) k is h =
            let same : gap Between (drop at text ++ c ∷ other) at ≡ Err f =
            gap_kept c small rest other Between (drop at text) at end (omega (arith, e, k, length-drop at text)) (subst (λ r. reached c small rest other r ≤ end) (sym is) (omega (arith, asks.faults_before f h))) ∙ is in
            ap (token_behind (text ++ c ∷ other)) same
        behind (Ok start) k is h =
            let before : start < end = starts start h in
            let same : gap Between (drop at text ++ c ∷ other) at ≡ Ok start =
            gap_kept c small rest other Between (drop at text) at end (omega (arith, e, k, length-drop at text)) (subst (λ r. reached c small rest other r ≤ end) (sym is) (omega arith)) ∙ is in
            let mine : drop start (text ++ c ∷ rest) ≡ drop start text ++ c ∷ rest = drop-append-le start text (c ∷ rest) (omega (arith, e)) in
            let theirs : drop start (text ++ c ∷ other) ≡ drop start text ++ c ∷ other = drop-append-le start text (c ∷ other) (omega (arith, e)) in
            ap (token_behind (text ++ c ∷ other)) same
            ∙ ap (λ bs. token_at bs start) theirs
            ∙ token_kept (drop start text) start (omega (arith, e, length-drop start text)) (λ b bs split. number start b bs split (omega arith)) (subst (λ bs. P (token_at bs start)) mine h)
            ∙ sym (ap (λ bs. token_at bs start) mine)

        found : at ≤ end → next_token (text ++ c ∷ other) at ≡ next_token (text ++ c ∷ rest) at
        found k =
            let mine : drop at (text ++ c ∷ rest) ≡ drop at text ++ c ∷ rest = drop-append-le at text (c ∷ rest) (omega (arith, e)) in
            let theirs : drop at (text ++ c ∷ other) ≡ drop at text ++ c ∷ other = drop-append-le at text (c ∷ other) (omega (arith, e)) in
            ap (λ bs. token_behind (text ++ c ∷ other) (gap Between bs at)) theirs
            ∙ behind (gap Between (drop at text ++ c ∷ rest) at) k refl (subst (λ bs. P (token_behind (text ++ c ∷ rest) (gap Between bs at))) mine p)
            ∙ sym (ap (λ bs. token_behind (text ++ c ∷ rest) (gap Between bs at)) mine)
