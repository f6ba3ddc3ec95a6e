-- The digits of a number in a base are digits of it, and their value is the number.
use Rattle.std.proofs.Common.{◌≡◌, ℕ, zero, suc, ◌+◌, ◌*◌, ◌<◌, Bool, true, false, List, [], ◌∷◌, ◌++◌, refl, ap, ◌∙◌, arith}
use Rattle.std.specs.Prelude.{◌/◌, ◌%◌, ◌==◌, if◌then◌else◌}
use Rattle.std.specs.Char.{is_digit, digit_value}
use Rattle.std.specs.Fmt.{digits_onto, digit_glyph}
use Rattle.std.proofs.lemmas.Bool.Decides.{nat_tests}
use Rattle.spec_numbers.specs.Texts.{Text}
use Rattle.spec_syntax.specs.Characters.{begins_with}
use Rattle.spec_syntax.specs.Quotes as read
use Rattle.spec_syntax.specs.Quotes.{digits_value}
use Rattle.spec_syntax.specs.Laws.{AllPass}
use Rattle.spec_text.specs.Numbers.{whole_text}

-- ---- a base

-- the last digit of a number, and the number before it
record IsBase (base : ℕ) : Type 0 where
  is_glyph : (n : ℕ) → is_digit (digit_glyph false (n % base)) base ≡ true
  glyph_value : (n : ℕ) → digit_value (digit_glyph false (n % base)) ≡ n % base
  parts : (n : ℕ) → n / base * base + n % base ≡ n
  smaller : (n : ℕ) → 0 < n / base → n / base < n

glyph_digit : (d : ℕ) → d < 10 → is_digit (digit_glyph false d) 10 ≡ true
glyph_digit d h = grind (arith, nat_tests)

value_of_glyph : (d : ℕ) → d < 16 → digit_value (digit_glyph false d) ≡ d
value_of_glyph d h = grind (arith, nat_tests)

hexadecimal_glyph : (d : ℕ) → d < 16 → is_digit (digit_glyph false d) 16 ≡ true
hexadecimal_glyph d h = grind (arith, nat_tests)

ten : IsBase 10
ten = record {
  is_glyph = λ n. glyph_digit (n % 10) (omega arith);
  glyph_value = λ n. value_of_glyph (n % 10) (omega arith);
  parts = λ n. omega arith;
  smaller = λ n h. omega arith;
}

sixteen : IsBase 16
sixteen = record {
  is_glyph = λ n. hexadecimal_glyph (n % 16) (omega arith);
  glyph_value = λ n. value_of_glyph (n % 16) (omega arith);
  parts = λ n. omega arith;
  smaller = λ n h. omega arith;
}

module _ (base : ℕ) (is : IsBase base) where
  all_digits : (fuel n : ℕ) (acc : List ℕ) → AllPass (λ b. is_digit b base) acc → AllPass (λ b. is_digit b base) (digits_onto fuel base false n acc)
  all_digits zero n acc h = h
  all_digits (suc fuel) n acc h = by (n / base == 0) (is.is_glyph n, h) (all_digits fuel (n / base) (digit_glyph false (n % base) ∷ acc) (is.is_glyph n, h))
    where
      by : (b : Bool) → AllPass (λ b. is_digit b base) (digit_glyph false (n % base) ∷ acc) → AllPass (λ b. is_digit b base) (digits_onto fuel base false (n / base) (digit_glyph false (n % base) ∷ acc)) →
          AllPass (λ b. is_digit b base) (if b then digit_glyph false (n % base) ∷ acc else digits_onto fuel base false (n / base) (digit_glyph false (n % base) ∷ acc))
      by true g r = g
      by false g r = r

  one_digit : (n v : ℕ) (acc : List ℕ) → read.digits_onto base v (digit_glyph false (n % base) ∷ acc) ≡ read.digits_onto base (v * base + n % base) acc
  one_digit n v acc = rw (is.is_glyph n, is.glyph_value n) refl

  same_value : (fuel n : ℕ) (acc : List ℕ) → n < fuel → read.digits_onto base 0 (digits_onto fuel base false n acc) ≡ read.digits_onto base n acc
  same_value zero n acc h = absurd (omega arith)
  same_value (suc fuel) n acc h = by (n / base == 0) refl (λ g. same_value fuel (n / base) (digit_glyph false (n % base) ∷ acc) g)
    where
      zero_times : (m : ℕ) → m ≡ 0 → m * base ≡ 0 * base
      zero_times m e = ap (λ x. x * base) e

      by : (b : Bool) → (n / base == 0) ≡ b
          → (n / base < fuel → read.digits_onto base 0 (digits_onto fuel base false (n / base) (digit_glyph false (n % base) ∷ acc)) ≡ read.digits_onto base (n / base) (digit_glyph false (n % base) ∷ acc)) →
          read.digits_onto base 0 (if b then digit_glyph false (n % base) ∷ acc else digits_onto fuel base false (n / base) (digit_glyph false (n % base) ∷ acc)) ≡ read.digits_onto base n acc
      by true e r =
          let z : n / base ≡ 0 = grind (arith, nat_tests) in
          let t : n / base * base ≡ 0 * base = zero_times (n / base) z in
          let p : n / base * base + n % base ≡ n = is.parts n in
          let m : 0 * base + n % base ≡ n = omega (arith, t, p) in one_digit n 0 acc ∙ ap (λ v. read.digits_onto base v acc) m
      by false e r =
          let z : 0 < n / base = grind (arith, nat_tests) in
          let s : n / base < n = is.smaller n z in
          r (omega (arith, s, h)) ∙ one_digit n (n / base) acc ∙ ap (λ v. read.digits_onto base v acc) (is.parts n)

pub whole_digits : (n : ℕ) → AllPass (λ b. is_digit b 10) (whole_text n)
whole_digits n = all_digits 10 ten (suc n) n [] tt

pub whole_value : (n : ℕ) → digits_value 10 (whole_text n) ≡ n
whole_value n = same_value 10 ten (suc n) n [] (omega arith)

pub hexadecimal_digits : (n : ℕ) → AllPass (λ b. is_digit b 16) (digits_onto (suc n) 16 false n [])
hexadecimal_digits n = all_digits 16 sixteen (suc n) n [] tt

pub hexadecimal_value : (n : ℕ) → digits_value 16 (digits_onto (suc n) 16 false n []) ≡ n
hexadecimal_value n = same_value 16 sixteen (suc n) n [] (omega arith)

-- ---- the first digit

-- the text is not empty
abbrev pub IsSome : Text → Type 0
IsSome [] = ⊥
IsSome (b ∷ bs) = Unit {0}

pub some-append : (w x : Text) → IsSome w → IsSome (w ++ x)
some-append [] x h = elim h [ ]
some-append (b ∷ w) x h = tt

pub digits_some : (fuel base : ℕ) (n : ℕ) (acc : Text) → IsSome acc → IsSome (digits_onto fuel base false n acc)
digits_some zero base n acc h = h
digits_some (suc fuel) base n acc h = by (n / base == 0) (digits_some fuel base (n / base) (digit_glyph false (n % base) ∷ acc) tt)
  where
    by : (b : Bool) → IsSome (digits_onto fuel base false (n / base) (digit_glyph false (n % base) ∷ acc)) →
        IsSome (if b then digit_glyph false (n % base) ∷ acc else digits_onto fuel base false (n / base) (digit_glyph false (n % base) ∷ acc))
    by true g = tt
    by false g = g

-- the digits of a number are not empty
pub number_some : (base n : ℕ) → IsSome (digits_onto (suc n) base false n [])
number_some base n = by (n / base == 0) (digits_some n base (n / base) (digit_glyph false (n % base) ∷ []) tt)
  where
    by : (b : Bool) → IsSome (digits_onto n base false (n / base) (digit_glyph false (n % base) ∷ [])) →
        IsSome (if b then digit_glyph false (n % base) ∷ [] else digits_onto n base false (n / base) (digit_glyph false (n % base) ∷ []))
    by true g = tt
    by false g = g

pub whole_some : (n : ℕ) → IsSome (whole_text n)
whole_some n = number_some 10 n

glyph_zero : (d : ℕ) → d < 10 → (digit_glyph false d == 48) ≡ true → d ≡ 0
glyph_zero d h e = grind (arith, nat_tests)

first_digit : (fuel n : ℕ) (acc : List ℕ) → n < fuel → begins_with 48 (digits_onto fuel 10 false n acc) ≡ true → n ≡ 0
first_digit zero n acc h e = absurd (omega arith)
first_digit (suc fuel) n acc h e = by (n / 10 == 0) refl e (λ g i. first_digit fuel (n / 10) (digit_glyph false (n % 10) ∷ acc) g i)
  where
    by : (b : Bool) → (n / 10 == 0) ≡ b → begins_with 48 (if b then digit_glyph false (n % 10) ∷ acc else digits_onto fuel 10 false (n / 10) (digit_glyph false (n % 10) ∷ acc)) ≡ true →
        (n / 10 < fuel → begins_with 48 (digits_onto fuel 10 false (n / 10) (digit_glyph false (n % 10) ∷ acc)) ≡ true → n / 10 ≡ 0) → n ≡ 0
    by true z i r =
        let a : n / 10 ≡ 0 = grind (arith, nat_tests) in
        let d : n % 10 ≡ 0 = glyph_zero (n % 10) (omega arith) i in omega (arith, a, d)
    by false z i r =
        let a : 0 < n / 10 = grind (arith, nat_tests) in
        let d : n / 10 ≡ 0 = r (omega arith) i in omega (arith, a, d)

-- only 0 begins with a 0
pub whole_zero : (n : ℕ) → begins_with 48 (whole_text n) ≡ true → n ≡ 0
whole_zero n e = first_digit (suc n) n [] (omega arith) e
