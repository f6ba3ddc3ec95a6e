-- Quotes and escapes that end before a byte below 128 are the same, whatever comes after that byte.
use Rattle.std.proofs.Common.{◌≡◌, ℕ, zero, suc, ◌+◌, ◌-◌, ◌<◌, ◌≤◌, Bool, true, false, List, [], ◌∷◌, ◌++◌, length, drop, nat_lt, Option, Some, None, Result, Ok, Err, refl, sym, ap, subst, ◌∙◌, arith}
use Rattle.std.specs.Prelude.{◌==◌, ◌||◌}
use Rattle.std.specs.Char.{is_digit, digit_value}
use Rattle.std.specs.Str.{continuation_len}
use Rattle.std.proofs.lemmas.Bool.Decides.{nat_tests}
use Rattle.std.proofs.lemmas.List.{drop-append-le}
use Rattle.spec_syntax.specs.declared.grammar.Escape.{Escape}
use Rattle.spec_syntax.specs.declared.grammar.LexFault.{LexFault}
use Rattle.spec_syntax.specs.declared.grammar.LexFault.TheVariants.{BadByte}
use Rattle.spec_syntax.specs.Characters.{begins_with, first_char}
use Rattle.spec_syntax.specs.Gaps.{place}
use Rattle.spec_syntax.specs.Quotes.{digits_len, digits_value, is_scalar, closing, numbered, letter, escape_at, escape, Quoted, quoted, in_front, ends}
use Rattle.spec_syntax.specs.Laws.{settles}
use Rattle.spec_syntax.proofs.Bounds.{Within, quoted_within, EscapeWithin, escape_within}
use Rattle.spec_syntax.proofs.Kept.{if_kept, if_holds, begins_kept, first_kept, prefix_kept, onto_kept}

-- a settling byte is no digit, and no byte with which a numeral or an escape goes on
pub record Settling (c : ℕ) : Type 0 where
  pub small : c < 128
  pub no_digit : 16 ≤ digit_value c
  pub no_r : (c == 114) ≡ false
  pub no_x : (c == 120) ≡ false
  pub no_o : (c == 111) ≡ false
  pub no_b : (c == 98) ≡ false
  pub no_stop : (c == 46) ≡ false
  pub no_quote : (c == 39) ≡ false
  pub no_escape : (c == 92) ≡ false

pub settling : (c : ℕ) → settles c ≡ true → Settling c
settling c e = record {
  small = grind (arith, nat_tests);
  no_digit = grind (arith, nat_tests);
  no_r = grind (arith, nat_tests);
  no_x = grind (arith, nat_tests);
  no_o = grind (arith, nat_tests);
  no_b = grind (arith, nat_tests);
  no_stop = grind (arith, nat_tests);
  no_quote = grind (arith, nat_tests);
  no_escape = grind (arith, nat_tests);
}

pub no_digit_in : (c base : ℕ) → base ≤ 16 → 16 ≤ digit_value c → is_digit c base ≡ false
no_digit_in c base h k = grind (arith, nat_tests)

-- an escape of at least so many bytes, or of at most so many
abbrev AtLeast : ℕ → Result Escape LexFault → Type 0
AtLeast n (Ok e) = n ≤ e.size
AtLeast n (Err f) = Unit {0}

abbrev pub AtMost : ℕ → Result Escape LexFault → Type 0
AtMost n (Ok e) = e.size ≤ n
AtMost n (Err f) = ⊥

-- an escape that has so many bytes is at most as long as one that may have
least_most : (m n : ℕ) (r : Result Escape LexFault) → AtLeast m r → AtMost n r → m ≤ n
least_most m n (Ok e) h k = omega (arith, h, k)
least_most m n (Err f) h k = absurd k

closing_least : (before len value : ℕ) (bs : List ℕ) (at : ℕ) → AtLeast (before + len + 1) (closing before len value bs at)
closing_least before len value [] at = tt
closing_least before len value (b ∷ bs) at =
    if_holds (AtLeast (before + len + 1)) ((len == 0) || nat_lt b 92 || nat_lt 92 b) _ _ tt (if_holds (AtLeast (before + len + 1)) (is_scalar value) _ _ (omega arith) tt)

at_least_less : (m n : ℕ) (r : Result Escape LexFault) → m ≤ n → AtLeast n r → AtLeast m r
at_least_less m n (Ok e) h k = omega (arith, k)
at_least_less m n (Err f) h k = tt

escape_least : (b : ℕ) (bs : List ℕ) (at : ℕ) → AtLeast 1 (escape (b ∷ bs) at)
escape_least b bs at = by (letter b)
  where
    by : (l : Option ℕ) → AtLeast 1 (escape_at l b bs at)
    by (Some c) = omega arith
    by None =
        if_holds (AtLeast 1) (b == 10) _ _ (omega arith)
        (if_holds (AtLeast 1) (b == 120) _ _ (at_least_less _ _ _ (omega arith) (closing_least 1 (digits_len 16 bs) (digits_value 16 bs) (drop (digits_len 16 bs) bs) at))
        (if_holds (AtLeast 1) (is_digit b 8) _ _ (at_least_less _ _ _ (omega arith) (closing_least 0 (digits_len 8 (b ∷ bs)) (digits_value 8 (b ∷ bs)) (drop (digits_len 8 (b ∷ bs)) (b ∷ bs)) at)) tt))

module _ (c : ℕ) (small : c < 128) (rest other : List ℕ) where
  closing_kept : (before len value : ℕ) (q : List ℕ) (at : ℕ) → closing before len value (q ++ c ∷ other) at ≡ closing before len value (q ++ c ∷ rest) at
  closing_kept before len value [] at = refl
  closing_kept before len value (b ∷ q) at = refl

  numbered_kept : (base before : ℕ) (q : List ℕ) (at : ℕ) → digits_len base (q ++ c ∷ rest) ≤ length q → numbered base before (q ++ c ∷ other) at ≡ numbered base before (q ++ c ∷ rest) at
  numbered_kept base before q at fits =
      let len = digits_len base (q ++ c ∷ rest) in
      rw (
        prefix_kept c small rest other (λ b. is_digit b base) q fits,
        onto_kept c small rest other base 0 q fits,
        drop-append-le len q (c ∷ other) fits,
        drop-append-le len q (c ∷ rest) fits,
      ) (closing_kept before len (digits_value base (q ++ c ∷ rest)) (drop len q) at)

  -- an escape that ends before the byte
  pub escape_kept : (q : List ℕ) (at : ℕ) → AtMost (length q) (escape (q ++ c ∷ rest) at) → escape (q ++ c ∷ other) at ≡ escape (q ++ c ∷ rest) at
  escape_kept [] at fits = absurd (omega (arith, least_most 1 0 (escape (c ∷ rest) at) (escape_least c rest at) fits))
  escape_kept (b ∷ q) at fits = by (letter b) fits
    where
      by : (l : Option ℕ) → AtMost (length (b ∷ q)) (escape_at l b (q ++ c ∷ rest) at) → escape_at l b (q ++ c ∷ other) at ≡ escape_at l b (q ++ c ∷ rest) at
      by (Some d) h = refl
      by None h =
          if_kept (AtMost (length (b ∷ q))) (b == 10) _ _ _ _ (λ p. refl)
          (if_kept (AtMost (length (b ∷ q))) (b == 120) _ _ _ _ (λ p. numbered_kept 16 1 q at (hexadecimal p))
          (if_kept (AtMost (length (b ∷ q))) (is_digit b 8) _ _ _ _ (λ p. numbered_kept 8 0 (b ∷ q) at (octal p)) (λ p. refl))) h
        where
          hexadecimal : AtMost (length (b ∷ q)) (numbered 16 1 (q ++ c ∷ rest) at) → digits_len 16 (q ++ c ∷ rest) ≤ length q
          hexadecimal p =
              let len = digits_len 16 (q ++ c ∷ rest) in
              omega (arith, least_most (1 + len + 1) (length (b ∷ q)) _ (closing_least 1 len (digits_value 16 (q ++ c ∷ rest)) (drop len (q ++ c ∷ rest)) at) p)

          octal : AtMost (length (b ∷ q)) (numbered 8 0 (b ∷ (q ++ c ∷ rest)) at) → digits_len 8 (b ∷ (q ++ c ∷ rest)) ≤ length (b ∷ q)
          octal p =
              let len = digits_len 8 (b ∷ (q ++ c ∷ rest)) in
              omega (arith, least_most (0 + len + 1) (length (b ∷ q)) _ (closing_least 0 len (digits_value 8 (b ∷ (q ++ c ∷ rest))) (drop len (b ∷ (q ++ c ∷ rest))) at) p)

  -- digits end before a byte that is none
  pub digits_stop : (base : ℕ) (q : List ℕ) → is_digit c base ≡ false → digits_len base (q ++ c ∷ rest) ≤ length q
  digits_stop base [] no_digit = rw no_digit (omega arith)
  digits_stop base (b ∷ q) no_digit = if_holds (λ n. n ≤ length (b ∷ q)) (is_digit b base) _ _ (omega (arith, digits_stop base q no_digit)) (omega arith)

  -- any escape, before a settling byte
  pub escape_settled : (q : List ℕ) (at : ℕ) → Settling c → escape (q ++ c ∷ other) at ≡ escape (q ++ c ∷ rest) at
  escape_settled [] at s = by (letter c)
    where
      by : (l : Option ℕ) → escape_at l c other at ≡ escape_at l c rest at
      by (Some d) = refl
      by None = rw (s.no_x, no_digit_in c 8 (omega arith) s.no_digit) refl
  escape_settled (b ∷ q) at s = by (letter b)
    where
      by : (l : Option ℕ) → escape_at l b (q ++ c ∷ other) at ≡ escape_at l b (q ++ c ∷ rest) at
      by (Some d) = refl
      by None =
          let hexadecimal : digits_len 16 (q ++ c ∷ rest) ≤ length q = digits_stop 16 q (no_digit_in c 16 (omega arith) s.no_digit) in
          let octal : digits_len 8 (b ∷ (q ++ c ∷ rest)) ≤ length (b ∷ q) = digits_stop 8 (b ∷ q) (no_digit_in c 8 (omega arith) s.no_digit) in
          rw (numbered_kept 16 1 q at hexadecimal, numbered_kept 8 0 (b ∷ q) at octal) refl

-- quotes end behind this place, or their fault stands from here on
abbrev Past : ℕ → Result Quoted LexFault → Type 0
Past at (Ok held) = at < held.stop
Past at (Err f) = at ≤ place f

past_within : (at hi : ℕ) (r : Result Quoted LexFault) → Within (at + 1) hi (ends r) → Past at r
past_within at hi (Ok held) w = omega (arith, w.0)
past_within at hi (Err f) w = omega (arith, w.0)

past_in_front : (at : ℕ) (k : Option ℕ) (r : Result Quoted LexFault) → Past at r → Past at (in_front k r)
past_in_front at k (Ok held) h = h
past_in_front at k (Err f) h = h

-- what is read from behind the first byte on is past it
past_first : (q skip : ℕ) (bs : List ℕ) (at : ℕ) → Past at (quoted q skip bs (at + 1))
past_first q skip bs at = past_within at (at + 1 + length bs) (quoted q skip bs (at + 1)) (quoted_within q skip bs (at + 1))

past_here : (q b : ℕ) (bs : List ℕ) (at : ℕ) → Past at (quoted q 0 (b ∷ bs) at)
past_here q b bs at =
    if_holds (Past at) (b == 10) _ _ (omega arith)
    (if_holds (Past at) (b == q) _ _ (if_holds (Past at) (begins_with q bs) _ _ (past_in_front at (Some q) _ (past_first q 1 bs at)) (omega arith))
    (if_holds (Past at) (b == 92) _ _ (escaped (escape bs (at + 1)) (escape_within bs (at + 1) (omega arith))) (single (first_char (b ∷ bs)))))
  where
    escaped : (r : Result Escape LexFault) → EscapeWithin (length bs) (at + 1 - 1) (at + 1 + length bs) r → Past at (elim r [ Ok e ↦ in_front e.stands_for (quoted q e.size bs (at + 1)) | Err f ↦ Err f ])
    escaped (Ok e) w = past_in_front at e.stands_for _ (past_first q e.size bs at)
    escaped (Err f) w = omega (arith, w.0)

    single : (k : Option ℕ) → Past at (elim k [ Some d ↦ in_front (Some d) (quoted q (continuation_len b) bs (at + 1)) | None ↦ Err (BadByte at) ])
    single (Some d) = past_in_front at (Some d) _ (past_first q (continuation_len b) bs at)
    single None = omega arith

-- bytes that are passed over are behind
past_skip : (quote skip : ℕ) (c : ℕ) (q rest : List ℕ) (at end : ℕ) → end ≡ at + length q → length q < skip → Past end (quoted quote skip (q ++ c ∷ rest) at)
past_skip quote zero c q rest at end e h = absurd (omega arith)
past_skip quote (suc skip) c [] rest at end e h = let same : at ≡ end = omega arith in subst (λ n. Past n (quoted quote skip rest (at + 1))) same (past_first quote skip rest at)
past_skip quote (suc skip) c (b ∷ q) rest at end e h = past_skip quote skip c q rest (at + 1) end (omega arith) (omega arith)

-- what is asked of quotes: they end by this place, or their fault stands before it, whatever characters they hold
pub record Asks (P : Result Quoted LexFault → Type 0) (end : ℕ) : Type 0 where
  pub ends_by : (held : Quoted) → P (Ok held) → held.stop ≤ end
  pub faults_before : (f : LexFault) → P (Err f) → place f < end
  pub inside : (k : Option ℕ) (r : Result Quoted LexFault) → P (in_front k r) → P r

module _ (c : ℕ) (small : c < 128) (rest other : List ℕ) (P : Result Quoted LexFault → Type 0) (end : ℕ) (asks : Asks P end)
    (faulty : (q : List ℕ) (at : ℕ) (f : LexFault) → P (Err f) → escape (q ++ c ∷ rest) at ≡ Err f → escape (q ++ c ∷ other) at ≡ Err f) where
  not_past : (r : Result Quoted LexFault) → Past end r → P r → ⊥
  not_past (Ok held) h p = omega (arith, h, asks.ends_by held p)
  not_past (Err f) h p = omega (arith, h, asks.faults_before f p)

  front_kept : (k : Option ℕ) (r r' : Result Quoted LexFault) → (P r → r' ≡ r) → P (in_front k r) → in_front k r' ≡ in_front k r
  front_kept k r r' h p = ap (in_front k) (h (asks.inside k r p))

  -- the quotes behind a byte and so many more are the same
  abbrev Again : ℕ → List ℕ → ℕ → Type 0
  Again quote q at = (skip : ℕ) → P (quoted quote skip (q ++ c ∷ rest) at) → quoted quote skip (q ++ c ∷ other) at ≡ quoted quote skip (q ++ c ∷ rest) at

  -- the quotes behind an escape
  abbrev behind : ℕ → List ℕ → ℕ → Result Escape LexFault → Result Quoted LexFault
  behind quote bs at r = elim r [ Ok e ↦ in_front e.stands_for (quoted quote e.size bs at) | Err f ↦ Err f ]

  -- the quotes behind a character
  abbrev behind_char : ℕ → ℕ → List ℕ → ℕ → Option ℕ → Result Quoted LexFault
  behind_char quote size bs at k = elim k [ Some d ↦ in_front (Some d) (quoted quote size bs (at + 1)) | None ↦ Err (BadByte at) ]

  char_kept : (quote size : ℕ) (q : List ℕ) (at : ℕ) (k : Option ℕ) → Again quote q (at + 1) → P (behind_char quote size (q ++ c ∷ rest) at k)
      → behind_char quote size (q ++ c ∷ other) at k ≡ behind_char quote size (q ++ c ∷ rest) at k
  char_kept quote size q at (Some d) again h = front_kept (Some d) _ _ (again size) h
  char_kept quote size q at None again h = refl

  behind_kept : (quote : ℕ) (q : List ℕ) (at : ℕ) (r : Result Escape LexFault) → end ≡ at + length q → Again quote q at → escape (q ++ c ∷ rest) at ≡ r → P (behind quote (q ++ c ∷ rest) at r)
      → behind quote (q ++ c ∷ other) at (escape (q ++ c ∷ other) at) ≡ behind quote (q ++ c ∷ rest) at r
  behind_kept quote q at (Err f) e again is h = ap (behind quote (q ++ c ∷ other) at) (faulty q at f h is)
  behind_kept quote q at (Ok escaped) e again is h = by (nat_lt (length q) escaped.size) refl
    where
      by : (long : Bool) → nat_lt (length q) escaped.size ≡ long → behind quote (q ++ c ∷ other) at (escape (q ++ c ∷ other) at) ≡ behind quote (q ++ c ∷ rest) at (Ok escaped)
      by true l =
          let lt : length q < escaped.size = grind (arith, nat_tests) in
          absurd (not_past _ (past_skip quote escaped.size c q rest at end e lt) (asks.inside escaped.stands_for _ h))
      by false l =
          let le : escaped.size ≤ length q = grind (arith, nat_tests) in
          let same : escape (q ++ c ∷ other) at ≡ Ok escaped = escape_kept c small rest other q at (subst (AtMost (length q)) (sym is) le) ∙ is in
          ap (behind quote (q ++ c ∷ other) at) same ∙ front_kept escaped.stands_for _ _ (again escaped.size) h

  pub quoted_kept : (quote skip : ℕ) (q : List ℕ) (at : ℕ) → end ≡ at + length q → P (quoted quote skip (q ++ c ∷ rest) at) → quoted quote skip (q ++ c ∷ other) at ≡ quoted quote skip (q ++ c ∷ rest) at
  quoted_kept quote zero [] at e p =
      let same : at ≡ end = omega arith in
      absurd (not_past _ (subst (λ n. Past n (quoted quote 0 (c ∷ rest) at)) same (past_here quote c rest at)) p)
  quoted_kept quote (suc skip) [] at e p = absurd (not_past _ (past_skip quote (suc skip) c [] rest at end e (omega arith)) p)
  quoted_kept quote (suc skip) (b ∷ q) at e p = quoted_kept quote skip q (at + 1) (omega arith) p
  quoted_kept quote zero (b ∷ q) at e p =
      rw (begins_kept c small rest other (λ x. x == quote) q, first_kept c small rest other b q)
      (if_kept P (b == 10) _ _ _ _ (λ h. refl)
      (if_kept P (b == quote) _ _ _ _
      (if_kept P (begins_with quote (q ++ c ∷ rest)) _ _ _ _ (front_kept (Some quote) _ _ (λ h. quoted_kept quote 1 q (at + 1) (omega arith) h)) (λ h. refl))
      (if_kept P (b == 92) _ _ _ _
      (behind_kept quote q (at + 1) (escape (q ++ c ∷ rest) (at + 1)) (omega arith) (λ skip h. quoted_kept quote skip q (at + 1) (omega arith) h) refl)
      (char_kept quote (continuation_len b) q at (first_char (b ∷ (q ++ c ∷ rest))) (λ skip h. quoted_kept quote skip q (at + 1) (omega arith) h)))) p)
