-- Numerals that end before a byte below 128 are the same, whatever comes after that byte: two bytes behind them, or one that settles.
use Rattle.std.proofs.Common.{◌≡◌, ℕ, zero, suc, ◌+◌, ◌<◌, ◌≤◌, Bool, true, false, List, [], ◌∷◌, ◌++◌, length, length-drop, drop, Option, Some, None, Result, Ok, Err, refl, sym, ap, subst, ◌∙◌, arith}
use Rattle.std.specs.Prelude.{◌==◌, if◌then◌else◌}
use Rattle.std.specs.Char.{is_digit, is_ascii_digit}
use Rattle.std.specs.Str.{continuation_len}
use Rattle.std.proofs.lemmas.Bool.Decides.{nat_tests}
use Rattle.std.proofs.lemmas.List.{drop-append-le}
use Rattle.spec_syntax.specs.declared.grammar.Escape.{Escape}
use Rattle.spec_syntax.specs.declared.grammar.LexFault.{LexFault}
use Rattle.spec_syntax.specs.Characters.{begins_with, first_char}
use Rattle.spec_syntax.specs.Quotes.{digits_len, digits_value, escape}
use Rattle.spec_syntax.specs.Numerals.{Spelling, whole, based, escaped, character, marked, goes_on_as_fraction, fraction, plain, spelling_or, spelling, goes_on_as_float}
use Rattle.spec_syntax.proofs.Again.{first_char-ascii}
use Rattle.spec_syntax.proofs.Sizes.{spelling_sized}
use Rattle.spec_syntax.proofs.Kept.{if_kept, if_seen, if_holds, begins_kept, first_kept, prefix_kept, onto_kept}
use Rattle.spec_syntax.proofs.KeptQuotes.{Settling, AtMost, no_digit_in, digits_stop, escape_kept, escape_settled}

-- there is a spelling, of at most so many bytes
abbrev Found : ℕ → Option Spelling → Type 0
Found n None = ⊥
Found n (Some s) = s.size ≤ n

-- a spelling, if there is one, has at most so many bytes
abbrev Bounded : ℕ → Option Spelling → Type 0
Bounded n None = Unit {0}
Bounded n (Some s) = s.size ≤ n

-- a numeral has its digits
fraction_least : (n len : ℕ) (bs : List ℕ) → len ≤ (fraction n len bs).size
fraction_least n len bs = by (goes_on_as_fraction bs)
  where
    by : (goes_on : Bool) → len ≤ (if goes_on then record { over = n; under = digits_value 10 (drop 1 bs); size = len + 1 + digits_len 10 (drop 1 bs) } else whole n len).size
    by true = omega arith
    by false = omega arith

plain_least : (bs : List ℕ) → digits_len 10 bs ≤ (plain bs).size
plain_least bs = fraction_least (digits_value 10 bs) (digits_len 10 bs) (drop (digits_len 10 bs) bs)

based_bounded : (base m : ℕ) (bs : List ℕ) → Bounded (suc m) (based base bs) → digits_len base bs ≤ m
based_bounded base m bs h = by (digits_len base bs == 0) refl h
  where
    by : (none : Bool) → (digits_len base bs == 0) ≡ none → Bounded (suc m) (if none then None else Some (whole (digits_value base bs) (2 + digits_len base bs))) → digits_len base bs ≤ m
    by true e h = grind (arith, nat_tests)
    by false e h = omega (arith, h)

escaped_bounded : (m n : ℕ) (r : Result Escape LexFault) → n ≤ 3 + m → Found n (escaped r) → AtMost m r
escaped_bounded m n (Err f) h k = absurd k
escaped_bounded m n (Ok e) h k = by e.stands_for k
  where
    by : (c : Option ℕ) → Found n (elim c [ None ↦ None | Some c ↦ Some (whole c (3 + e.size)) ]) → e.size ≤ m
    by None long = absurd long
    by (Some c) long = omega (arith, h, long)

-- a character behind `0'` has three bytes or more
character_long : (bs : List ℕ) → Found 1 (character bs) → ⊥
character_long [] h = absurd h
character_long (b ∷ bs) h =
    if_holds (λ o. Found 1 o → ⊥) (b == 39) _ _ (if_holds (λ o. Found 1 o → ⊥) (begins_with 39 bs) _ _ (λ p. omega arith) (λ p. p))
    (if_holds (λ o. Found 1 o → ⊥) (b == 92) _ _ (escape_long (escape bs 1)) (if_holds (λ o. Found 1 o → ⊥) (b == 10) _ _ (λ p. p) (single (first_char (b ∷ bs))))) h
  where
    escape_long : (r : Result Escape LexFault) → Found 1 (escaped r) → ⊥
    escape_long (Err f) p = p
    escape_long (Ok e) p = by e.stands_for p
      where
        by : (c : Option ℕ) → Found 1 (elim c [ None ↦ None | Some c ↦ Some (whole c (3 + e.size)) ]) → ⊥
        by None h = h
        by (Some c) h = omega arith

    single : (c : Option ℕ) → Found 1 (elim c [ None ↦ None | Some c ↦ Some (whole c (3 + continuation_len b)) ]) → ⊥
    single None p = p
    single (Some c) p = omega arith

-- what stands behind a 0 that begins a numeral: none, where no quote follows, or a spelling of at most so many bytes
abbrev Marks : ℕ → ℕ → Option Spelling → Type 0
Marks b n None = (b == 39) ≡ false
Marks b n (Some s) = s.size ≤ n

marks_bounded : (b n : ℕ) (o : Option Spelling) → Marks b n o → Bounded n o
marks_bounded b n None h = tt
marks_bounded b n (Some s) h = h

marks_found : (b n : ℕ) (o : Option Spelling) → (b == 39) ≡ true → Marks b n o → Found n o
marks_found b n None e h = absurd (cc)
marks_found b n (Some s) e h = h

some_left : (n : ℕ) (q : List ℕ) → drop n q ≡ [] → n ≤ length q → n ≡ length q
some_left n q e h = omega (arith, length-drop n q, ap length e)

module _ (c : ℕ) (small : c < 128) (rest other : List ℕ) where
  fraction_kept : (n len : ℕ) (q : List ℕ) → (q ≡ [] → (c == 114) ≡ false) → (fraction n len (q ++ c ∷ rest)).size ≤ len + length q → fraction n len (q ++ c ∷ other) ≡ fraction n len (q ++ c ∷ rest)
  fraction_kept n len [] no_r fits = rw (no_r refl) refl
  fraction_kept n len (b ∷ q) no_r fits = rw (begins_kept c small rest other is_ascii_digit q) (by (goes_on_as_fraction (b ∷ (q ++ c ∷ rest))) fits)
    where
      by : (goes_on : Bool) → (if goes_on then record { over = n; under = digits_value 10 (q ++ c ∷ rest); size = len + 1 + digits_len 10 (q ++ c ∷ rest) } else whole n len).size ≤ len + length (b ∷ q)
          → (if goes_on then record { over = n; under = digits_value 10 (q ++ c ∷ other); size = len + 1 + digits_len 10 (q ++ c ∷ other) } else whole n len)
          ≡ (if goes_on then record { over = n; under = digits_value 10 (q ++ c ∷ rest); size = len + 1 + digits_len 10 (q ++ c ∷ rest) } else whole n len)
      by true h =
          let fits : digits_len 10 (q ++ c ∷ rest) ≤ length q = omega arith in
          rw (prefix_kept c small rest other (λ x. is_digit x 10) q fits, onto_kept c small rest other 10 0 q fits) refl
      by false h = refl

  plain_kept : (q : List ℕ) → digits_len 10 (q ++ c ∷ rest) ≤ length q → (digits_len 10 (q ++ c ∷ rest) ≡ length q → (c == 114) ≡ false) → (plain (q ++ c ∷ rest)).size ≤ length q → plain (q ++ c ∷ other) ≡ plain (q ++ c ∷ rest)
  plain_kept q digits no_r fits =
      let len = digits_len 10 (q ++ c ∷ rest) in
      let n = digits_value 10 (q ++ c ∷ rest) in
      let split : drop len (q ++ c ∷ rest) ≡ drop len q ++ c ∷ rest = drop-append-le len q (c ∷ rest) digits in
      let whole_length : len + length (drop len q) ≡ length q = omega (arith, length-drop len q, digits) in
      rw (prefix_kept c small rest other (λ x. is_digit x 10) q digits, onto_kept c small rest other 10 0 q digits, drop-append-le len q (c ∷ other) digits, split)
      (fraction_kept n len (drop len q) (λ e. no_r (some_left len q e digits)) (omega (arith, fits, whole_length, ap (λ bs. (fraction n len bs).size) split)))

  based_kept : (base : ℕ) (q : List ℕ) → digits_len base (q ++ c ∷ rest) ≤ length q → based base (q ++ c ∷ other) ≡ based base (q ++ c ∷ rest)
  based_kept base q fits = rw (prefix_kept c small rest other (λ x. is_digit x base) q fits, onto_kept c small rest other base 0 q fits) refl

  character_kept : (q : List ℕ) → Found (suc (length q)) (character (q ++ c ∷ rest)) → character (q ++ c ∷ other) ≡ character (q ++ c ∷ rest)
  character_kept [] found = absurd (character_long (c ∷ rest) found)
  character_kept (b ∷ q) found =
      rw (begins_kept c small rest other (λ x. x == 39) q, first_kept c small rest other b q)
      (if_kept (Found (suc (length (b ∷ q)))) (b == 39) _ _ _ _ (λ p. refl)
      (if_kept (Found (suc (length (b ∷ q)))) (b == 92) _ _ _ _ (λ p. ap escaped (escape_kept c small rest other q 1 (escaped_bounded (length q) (suc (length (b ∷ q))) (escape (q ++ c ∷ rest) 1) (omega arith) p)))
      (λ p. refl)) found)

  marked_kept : (b : ℕ) (q : List ℕ) → Marks b (length (b ∷ q)) (marked (b ∷ (q ++ c ∷ rest))) → marked (b ∷ (q ++ c ∷ other)) ≡ marked (b ∷ (q ++ c ∷ rest))
  marked_kept b q marks =
      if_kept P (b == 120) _ _ _ _ (λ p. based_kept 16 q (digits 16 p))
      (if_kept P (b == 111) _ _ _ _ (λ p. based_kept 8 q (digits 8 p))
      (if_kept P (b == 98) _ _ _ _ (λ p. based_kept 2 q (digits 2 p))
      (if_seen P (b == 39) _ _ _ _ (λ e p. character_kept q (marks_found b (length (b ∷ q)) (character (q ++ c ∷ rest)) e p)) (λ p. refl)))) marks
    where
      P : Option Spelling → Type 0
      P o = Marks b (length (b ∷ q)) o

      digits : (base : ℕ) → P (based base (q ++ c ∷ rest)) → digits_len base (q ++ c ∷ rest) ≤ length q
      digits base p = based_bounded base (length q) (q ++ c ∷ rest) (marks_bounded b (length (b ∷ q)) (based base (q ++ c ∷ rest)) p)

  -- two bytes behind a numeral settle how it is spelled, unless it is 0 before a quote
  pub spelling_kept : (b : ℕ) (q : List ℕ) → is_ascii_digit b ≡ true → (spelling (b ∷ (q ++ c ∷ rest))).size ≤ length q
      → (begins_with 39 (q ++ c ∷ rest) ≡ true → (spelling (b ∷ (q ++ c ∷ rest))).size ≡ 1 → b ≡ 48 → ⊥) → spelling (b ∷ (q ++ c ∷ other)) ≡ spelling (b ∷ (q ++ c ∷ rest))
  spelling_kept b [] digit fits no_quote = absurd (omega (arith, fits, (spelling_sized b (c ∷ rest) digit).0))
  spelling_kept b (x ∷ q) digit fits no_quote = by (b == 48) refl fits no_quote
    where
      mine : List ℕ
      mine = x ∷ (q ++ c ∷ rest)

      here : (plain (b ∷ mine)).size ≤ length (x ∷ q) → plain (b ∷ x ∷ (q ++ c ∷ other)) ≡ plain (b ∷ mine)
      here h =
          let least = plain_least (b ∷ mine) in
          plain_kept (b ∷ x ∷ q) (omega arith) (λ e. absurd (omega arith)) (omega arith)

      or : (o : Option Spelling) → marked mine ≡ o → b ≡ 48 → (spelling_or o (plain (b ∷ mine))).size ≤ length (x ∷ q)
          → ((x == 39) ≡ true → (spelling_or o (plain (b ∷ mine))).size ≡ 1 → b ≡ 48 → ⊥) → spelling_or (marked (x ∷ (q ++ c ∷ other))) (plain (b ∷ x ∷ (q ++ c ∷ other))) ≡ spelling_or o (plain (b ∷ mine))
      or (Some s) e z h k = ap (λ o. spelling_or o (plain (b ∷ x ∷ (q ++ c ∷ other)))) (marked_kept x q (subst (Marks x (length (x ∷ q))) (sym e) h) ∙ e)
      or None e z h k = ap (λ o. spelling_or o (plain (b ∷ x ∷ (q ++ c ∷ other)))) (marked_kept x q (subst (Marks x (length (x ∷ q))) (sym e) (free (x == 39) refl)) ∙ e) ∙ here h
        where
          zero_alone : (b x : ℕ) (bs : List ℕ) → b ≡ 48 → x ≡ 39 → (plain (b ∷ x ∷ bs)).size ≡ 1
          zero_alone b x bs e f = ap (λ n. (plain (n ∷ x ∷ bs)).size) e ∙ ap (λ n. (plain (48 ∷ n ∷ bs)).size) f

          free : (quote : Bool) → (x == 39) ≡ quote → quote ≡ false
          free false e = refl
          free true e = let is_quote : x ≡ 39 = grind (arith, nat_tests) in absurd (k e (zero_alone b x (q ++ c ∷ rest) z is_quote) z)

      by : (zero : Bool) → (b == 48) ≡ zero → (if zero then spelling_or (marked mine) (plain (b ∷ mine)) else plain (b ∷ mine)).size ≤ length (x ∷ q)
          → ((x == 39) ≡ true → (if zero then spelling_or (marked mine) (plain (b ∷ mine)) else plain (b ∷ mine)).size ≡ 1 → b ≡ 48 → ⊥)
          → (if zero then spelling_or (marked (x ∷ (q ++ c ∷ other))) (plain (b ∷ x ∷ (q ++ c ∷ other))) else plain (b ∷ x ∷ (q ++ c ∷ other))) ≡ (if zero then spelling_or (marked mine) (plain (b ∷ mine)) else plain (b ∷ mine))
      by true e h k = let is_zero : b ≡ 48 = grind (arith, nat_tests) in or (marked mine) refl is_zero h k
      by false e h k = here h

  -- and a settling byte settles how every numeral is spelled
  fraction_stops : (n len : ℕ) (q : List ℕ) → Settling c → (fraction n len (q ++ c ∷ rest)).size ≤ len + length q
  fraction_stops n len [] s = rw s.no_r (omega arith)
  fraction_stops n len (b ∷ q) s = by (goes_on_as_fraction (b ∷ (q ++ c ∷ rest)))
    where
      digits : digits_len 10 (q ++ c ∷ rest) ≤ length q
      digits = digits_stop c small rest other 10 q (no_digit_in c 10 (omega arith) s.no_digit)

      by : (goes_on : Bool) → (if goes_on then record { over = n; under = digits_value 10 (q ++ c ∷ rest); size = len + 1 + digits_len 10 (q ++ c ∷ rest) } else whole n len).size ≤ len + length (b ∷ q)
      by true = omega (arith, digits)
      by false = omega arith

  plain_settled : (q : List ℕ) → Settling c → plain (q ++ c ∷ other) ≡ plain (q ++ c ∷ rest)
  plain_settled q s =
      let len = digits_len 10 (q ++ c ∷ rest) in
      let n = digits_value 10 (q ++ c ∷ rest) in
      let digits : len ≤ length q = digits_stop c small rest other 10 q (no_digit_in c 10 (omega arith) s.no_digit) in
      let split : drop len (q ++ c ∷ rest) ≡ drop len q ++ c ∷ rest = drop-append-le len q (c ∷ rest) digits in
      let whole_length : len + length (drop len q) ≡ length q = omega (arith, length-drop len q, digits) in
      plain_kept q digits (λ e. s.no_r) (omega (arith, fraction_stops n len (drop len q) s, whole_length, ap (λ bs. (fraction n len bs).size) split))

  character_settled : (q : List ℕ) → Settling c → character (q ++ c ∷ other) ≡ character (q ++ c ∷ rest)
  character_settled [] s = rw (s.no_quote, s.no_escape, first_char-ascii c other small, first_char-ascii c rest small) refl
  character_settled (b ∷ q) s = rw (begins_kept c small rest other (λ x. x == 39) q, escape_settled c small rest other q 1 s, first_kept c small rest other b q) refl

  based_settled : (base : ℕ) (q : List ℕ) → base ≤ 16 → Settling c → based base (q ++ c ∷ other) ≡ based base (q ++ c ∷ rest)
  based_settled base q h s = based_kept base q (digits_stop c small rest other base q (no_digit_in c base h s.no_digit))

  marked_settled : (q : List ℕ) → Settling c → marked (q ++ c ∷ other) ≡ marked (q ++ c ∷ rest)
  marked_settled [] s = rw (s.no_x, s.no_o, s.no_b, s.no_quote) refl
  marked_settled (b ∷ q) s =
      rw (based_settled 16 q (omega arith) s, based_settled 8 q (omega arith) s, based_settled 2 q (omega arith) s, character_settled q s) refl

  pub spelling_settled : (b : ℕ) (q : List ℕ) → Settling c → spelling (b ∷ (q ++ c ∷ other)) ≡ spelling (b ∷ (q ++ c ∷ rest))
  spelling_settled b q s = rw (marked_settled q s, plain_settled (b ∷ q) s) refl

  pub float_kept : (n : ℕ) (q : List ℕ) → n < length q → goes_on_as_float (drop n (q ++ c ∷ other)) ≡ goes_on_as_float (drop n (q ++ c ∷ rest))
  float_kept n [] h = absurd (omega arith)
  float_kept zero (b ∷ q) h = rw (begins_kept c small rest other is_ascii_digit q) refl
  float_kept (suc n) (b ∷ q) h = float_kept n q (omega arith)

  pub float_settled : (n : ℕ) (q : List ℕ) → n ≤ length q → Settling c → goes_on_as_float (drop n (q ++ c ∷ other)) ≡ goes_on_as_float (drop n (q ++ c ∷ rest))
  float_settled zero [] h s = rw s.no_stop refl
  float_settled (suc n) [] h s = absurd (omega arith)
  float_settled zero (b ∷ q) h s = rw (begins_kept c small rest other is_ascii_digit q) refl
  float_settled (suc n) (b ∷ q) h s = float_settled n q (omega arith) s
