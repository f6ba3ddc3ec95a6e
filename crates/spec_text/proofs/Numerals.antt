-- A number that is not below zero is cut as it is written, and read as the number.
use Rattle.std.proofs.Common.{◌≡◌, ℕ, zero, suc, ◌+◌, ◌<◌, ◌≤◌, ℤ, pos, negsuc, Bool, true, false, List, [], ◌∷◌, ◌++◌, length, length-append, append_assoc, append-nil, drop, nat_lt, Some, None, Ok, refl, sym, ap, subst, ◌∙◌, arith}
use Rattle.std.specs.Prelude.{◌%◌, ◌==◌, nat_abs}
use Rattle.std.specs.Char.{is_digit, is_ascii_digit}
use Rattle.std.proofs.lemmas.Bool.Decides.{nat_tests}
use Rattle.spec_numbers.specs.Gcd.{gcd, gcd_within}
use Rattle.spec_numbers.specs.Rational.{ℚ, ratio}
use Rattle.spec_numbers.proofs.RationalLemmas.{ratio_back}
use Rattle.spec_numbers.specs.Texts.{Text}
use Rattle.spec_syntax.specs.declared.grammar.Kind.TheVariants as kind
use Rattle.spec_syntax.specs.declared.grammar.Gap.TheVariants.{Between}
use Rattle.spec_syntax.specs.Characters.{is_layout, begins, begins_with, first_char, passes, continues_name}
use Rattle.spec_syntax.specs.Gaps.{gap}
use Rattle.spec_syntax.specs.Quotes.{digits_len, digits_value}
use Rattle.spec_syntax.specs.Numerals.{greatest, whole, Spelling, is_wide, goes_on_as_fraction, goes_on_as_float, marked}
use Rattle.spec_syntax.specs.GrammarTokens.{Token, token_at, numeral}
use Rattle.spec_syntax.specs.Laws.{AllPass}
use Rattle.spec_syntax.proofs.Again.{first_char-ascii, numeral_again, whole_again, fraction_again}
use Rattle.spec_syntax.specs.Writing.{is_negative}
use Rattle.spec_text.specs.Numbers.{parts_text, whole_text, under_text, number_text}
use Rattle.spec_text.specs.ReadingBack.{FitsNumber}
use Rattle.spec_text.proofs.Blanks.{drop-before}
use Rattle.spec_text.proofs.Wholes.{IsSome, whole_some, whole_digits, whole_value, whole_zero}
use Rattle.spec_text.proofs.WritingCounted.{digit_continues}
use Rattle.spec_text.proofs.Cuts.{gap_none}

-- ---- what follows

-- what follows does not go on with a numeral
pub record StopsNumeral (more : List ℕ) : Type 0 where
  pub letters : passes continues_name (first_char more) ≡ false
  pub quote : begins_with 39 more ≡ false
  pub float : goes_on_as_float more ≡ false

-- a byte that may continue a name does not follow
other_byte : (b n : ℕ) (bs : List ℕ) → passes continues_name (first_char (b ∷ bs)) ≡ false → n < 128 → continues_name n ≡ true → (b == n) ≡ false
other_byte b n bs stops low letter = by (b == n) refl
  where
    by : (x : Bool) → (b == n) ≡ x → x ≡ false
    by false e = refl
    by true e =
        let same : b ≡ n = grind (arith, nat_tests) in
        let first : first_char (b ∷ bs) ≡ Some n = first_char-ascii b bs (omega arith) ∙ ap Some same in
        sym letter ∙ ap (passes continues_name) (sym first) ∙ stops

no_digit : (b : ℕ) (bs : List ℕ) → passes continues_name (first_char (b ∷ bs)) ≡ false → is_digit b 10 ≡ false
no_digit b bs stops = by (is_digit b 10) refl
  where
    by : (x : Bool) → is_digit b 10 ≡ x → x ≡ false
    by false e = refl
    by true e =
        let d = digit_continues b e in
        sym d.0 ∙ ap (passes continues_name) (sym (first_char-ascii b bs d.1)) ∙ stops

no_more_digits : (more : List ℕ) → StopsNumeral more → digits_len 10 more ≡ 0
no_more_digits [] s = refl
no_more_digits (b ∷ bs) s = rw (no_digit b bs s.letters) refl

no_fraction : (more : List ℕ) → StopsNumeral more → goes_on_as_fraction more ≡ false
no_fraction [] s = refl
no_fraction (b ∷ bs) s = rw (other_byte b 114 bs s.letters (omega arith) refl) refl

unmarked : (more : List ℕ) → StopsNumeral more → marked more ≡ None
unmarked [] s = refl
unmarked (b ∷ bs) s =
    rw (other_byte b 120 bs s.letters (omega arith) refl, other_byte b 111 bs s.letters (omega arith) refl, other_byte b 98 bs s.letters (omega arith) refl, s.quote) refl

-- ---- numerals

-- the numeral at a place, of so many bytes
abbrev numeral_token : ℕ → ℕ → ℚ → Token
numeral_token at size q = record { kind = kind.Numeral; span = record { start = at; end = at + size }; number = Some q }

not_wide : (n d size : ℕ) → n ≤ greatest → d ≤ greatest → 0 < d → is_wide (record { over = n; under = d; size = size }) ≡ false
not_wide n d size over under some =
    let a : nat_lt greatest n ≡ false = grind (arith, nat_tests) in
    let b : nat_lt greatest d ≡ false = grind (arith, nat_tests) in
    let c : (d == 0) ≡ false = grind (arith, nat_tests) in
    rw (a, b, c) refl

spelled : (n d size : ℕ) (bs more : List ℕ) (at : ℕ) → n ≤ greatest → d ≤ greatest → 0 < d → drop size bs ≡ more → goes_on_as_float more ≡ false →
    numeral (record { over = n; under = d; size = size }) bs at ≡ Ok (numeral_token at size (ratio (pos n) d))
spelled n d size bs more at over under some behind float = rw (not_wide n d size over under some, behind, float) refl

ascii_digit : (b : ℕ) → is_digit b 10 ≡ true → is_ascii_digit b ≡ true
ascii_digit b e = grind (arith, nat_tests)

begins_digit : (w more : List ℕ) → IsSome w → AllPass (λ b. is_digit b 10) w → begins is_ascii_digit (w ++ more) ≡ true
begins_digit [] more some all = elim some [ ]
begins_digit (b ∷ bs) more some all = ascii_digit b all.0

tail_of : (b : ℕ) (bs : List ℕ) → 48 ∷ [] ≡ b ∷ bs → bs ≡ []
tail_of b bs e = cc

begins_zero : (b : ℕ) (bs : List ℕ) → b ≡ 48 → begins_with 48 (b ∷ bs) ≡ true
begins_zero b bs e = grind (arith, nat_tests)

whole_cut : (n : ℕ) (more : List ℕ) (at : ℕ) → n ≤ greatest → StopsNumeral more → token_at (whole_text n ++ more) at ≡ Ok (numeral_token at (length (whole_text n)) (ratio (pos n) 1))
whole_cut n more at fits stops = by (whole_text n) refl
  where
    by : (w : Text) → whole_text n ≡ w → token_at (w ++ more) at ≡ Ok (numeral_token at (length w) (ratio (pos n) 1))
    by [] e = elim (subst IsSome e (whole_some n)) [ ]
    by (b ∷ bs) e =
        let all : AllPass (λ b. is_digit b 10) (b ∷ bs) = subst (AllPass (λ b. is_digit b 10)) e (whole_digits n) in
        let worth : digits_value 10 (b ∷ bs) ≡ n = ap (digits_value 10) (sym e) ∙ whole_value n in
        let zero_alone : (b ≡ 48 → marked (bs ++ more) ≡ None) = (λ z.
        let none : n ≡ 0 = whole_zero n (ap (begins_with 48) e ∙ begins_zero b bs z) in
        let alone : bs ≡ [] = tail_of b bs (ap whole_text (sym none) ∙ e) in
        ap (λ xs. marked (xs ++ more)) alone ∙ unmarked more stops) in
        numeral_again b (bs ++ more) at (ascii_digit b all.0) zero_alone
        ∙ ap (λ s. numeral s (b ∷ (bs ++ more)) at) (whole_again (b ∷ bs) more all (no_more_digits more stops) (no_fraction more stops) ∙ ap (λ v. whole v (length (b ∷ bs))) worth)
        ∙ spelled n 1 (length (b ∷ bs)) (b ∷ (bs ++ more)) more at fits (omega arith) (omega arith) (drop-before (b ∷ bs) more) stops.float

fraction_cut : (n d : ℕ) (more : List ℕ) (at : ℕ) → n ≤ greatest → d ≤ greatest → 0 < n → 0 < d → StopsNumeral more →
    token_at (whole_text n ++ (114 ∷ (whole_text d ++ more))) at ≡ Ok (numeral_token at (length (whole_text n) + 1 + length (whole_text d)) (ratio (pos n) d))
fraction_cut n d more at over under some below stops = by (whole_text n) refl
  where
    ds : Text
    ds = whole_text d

    size_is : (w : Text) → drop (length w + 1 + length (whole_text d)) (w ++ (114 ∷ (whole_text d ++ more))) ≡ more
    size_is w =
        let front : (w ++ 114 ∷ []) ++ whole_text d ≡ w ++ (114 ∷ whole_text d) = append_assoc w (114 ∷ []) (whole_text d) in
        let e : ((w ++ 114 ∷ []) ++ whole_text d) ++ more ≡ w ++ (114 ∷ (whole_text d ++ more)) = ap (λ xs. xs ++ more) front ∙ append_assoc w (114 ∷ whole_text d) more in
        let l1 : length (w ++ 114 ∷ []) ≡ length w + 1 = length-append w (114 ∷ []) in
        let l2 : length ((w ++ 114 ∷ []) ++ whole_text d) ≡ length (w ++ 114 ∷ []) + length (whole_text d) = length-append (w ++ 114 ∷ []) (whole_text d) in
        let l : length ((w ++ 114 ∷ []) ++ whole_text d) ≡ length w + 1 + length (whole_text d) = omega (arith, l1, l2) in
        ap (drop (length w + 1 + length (whole_text d))) (sym e)
        ∙ subst (λ k. drop k (((w ++ 114 ∷ []) ++ whole_text d) ++ more) ≡ more) l (drop-before ((w ++ 114 ∷ []) ++ whole_text d) more)

    by : (w : Text) → whole_text n ≡ w → token_at (w ++ (114 ∷ (whole_text d ++ more))) at ≡ Ok (numeral_token at (length w + 1 + length (whole_text d)) (ratio (pos n) d))
    by [] e = elim (subst IsSome e (whole_some n)) [ ]
    by (b ∷ bs) e =
        let all : AllPass (λ b. is_digit b 10) (b ∷ bs) = subst (AllPass (λ b. is_digit b 10)) e (whole_digits n) in
        let worth : digits_value 10 (b ∷ bs) ≡ n = ap (digits_value 10) (sym e) ∙ whole_value n in
        let not_zero : (b ≡ 48 → marked (bs ++ (114 ∷ (whole_text d ++ more))) ≡ None) = (λ z.
        let none : n ≡ 0 = whole_zero n (ap (begins_with 48) e ∙ begins_zero b bs z) in absurd (omega (arith, none, some))) in
        let spelling = fraction_again (b ∷ bs) (whole_text d) more all (whole_digits d) (begins_digit (whole_text d) more (whole_some d) (whole_digits d)) (no_more_digits more stops) in
        let parts : record { over = digits_value 10 (b ∷ bs); under = digits_value 10 (whole_text d); size = length (b ∷ bs) + 1 + length (whole_text d) }
        ≡ (let s : Spelling = record { over = n; under = d; size = length (b ∷ bs) + 1 + length (whole_text d) } in s) = rw (worth, whole_value d) refl in
        numeral_again b (bs ++ (114 ∷ (whole_text d ++ more))) at (ascii_digit b all.0) not_zero
        ∙ ap (λ s. numeral s (b ∷ (bs ++ (114 ∷ (whole_text d ++ more)))) at) (spelling ∙ parts)
        ∙ spelled n d (length (b ∷ bs) + 1 + length (whole_text d)) (b ∷ (bs ++ (114 ∷ (whole_text d ++ more)))) more at over under below (size_is (b ∷ bs)) stops.float

-- 0 in lowest terms is over 1
not_nothing : (n m : ℕ) → gcd n (suc (suc m)) ≡ 1 → 0 < n
unfolding gcd
not_nothing (suc n) m e = omega arith
not_nothing zero m e = absurd (go (0 % suc (suc m)) (omega arith) e)
  where
    go : (r : ℕ) → r ≡ 0 → gcd_within (suc (suc m)) (suc (suc m)) r ≡ 1 → ⊥
    go zero z h = omega (arith, h)
    go (suc r) z h = absurd (omega (arith, z))

at_parts : (z : ℤ) (below : ℕ) (more : List ℕ) (at : ℕ) → nat_abs z ≤ greatest → suc below ≤ greatest → gcd (nat_abs z) (suc below) ≡ 1 →
    (elim z [ pos n ↦ false | negsuc n ↦ true ]) ≡ false → StopsNumeral more → token_at (parts_text z below ++ more) at ≡ Ok (numeral_token at (length (parts_text z below)) (ratio z (suc below)))
at_parts (negsuc n) below more at over under lowest sign stops = cc
at_parts (pos n) zero more at over under lowest sign stops =
    rw append-nil (whole_cut n more at over stops)
at_parts (pos n) (suc m) more at over under lowest sign stops =
    let e : (whole_text n ++ (114 ∷ whole_text (suc (suc m)))) ++ more ≡ whole_text n ++ (114 ∷ (whole_text (suc (suc m)) ++ more)) = append_assoc (whole_text n) (114 ∷ whole_text (suc (suc m))) more in
    let l : length (whole_text n ++ (114 ∷ whole_text (suc (suc m)))) ≡ length (whole_text n) + length (114 ∷ whole_text (suc (suc m))) = length-append (whole_text n) (114 ∷ whole_text (suc (suc m))) in
    let size : length (whole_text n) + 1 + length (whole_text (suc (suc m))) ≡ length (whole_text n ++ (114 ∷ whole_text (suc (suc m)))) = omega (arith, l) in
    ap (λ xs. token_at xs at) e
    ∙ fraction_cut n (suc (suc m)) more at over under (not_nothing n m lowest) (omega arith) stops
    ∙ ap (λ k. Ok (numeral_token at k (ratio (pos n) (suc (suc m))))) size

-- the number that is read of its text
pub number_cut : (q : ℚ) (more : List ℕ) (at : ℕ) → FitsNumber q → is_negative q ≡ false → StopsNumeral more →
    token_at (number_text q ++ more) at ≡ Ok (record { kind = kind.Numeral; span = record { start = at; end = at + length (number_text q) }; number = Some q })
number_cut q more at fits sign stops =
    at_parts q.numerator q.below more at fits.0 fits.1 q.lowest sign stops ∙ ap (λ r. Ok (numeral_token at (length (number_text q)) r)) (ratio_back q)

-- its text begins with a digit
pub number_begins : (q : ℚ) → is_negative q ≡ false → begins is_ascii_digit (number_text q) ≡ true
number_begins q sign = by q.numerator sign
  where
    by : (z : ℤ) → (elim z [ pos n ↦ false | negsuc n ↦ true ]) ≡ false → begins is_ascii_digit (parts_text z q.below) ≡ true
    by (pos n) e = begins_digit (whole_text n) (under_text q.below) (whole_some n) (whole_digits n)
    by (negsuc n) e = cc

-- no layout and no comment begins with a digit
pub digit_gap : (w more : List ℕ) (at : ℕ) → begins is_ascii_digit w ≡ true → gap Between (w ++ more) at ≡ Ok at
digit_gap [] more at e = cc
digit_gap (b ∷ bs) more at e =
    let a : is_layout b ≡ false = grind (arith, nat_tests) in
    let c : (b == 37) ≡ false = grind (arith, nat_tests) in
    let d : (b == 47) ≡ false = grind (arith, nat_tests) in
    gap_none b (bs ++ more) at a c (rw d refl)
