-- The digits of a whole number as a loop reads them.
use Rattle.std.proofs.Common.{◌≡◌, ◌⊎◌, inl, inr, ℕ, zero, suc, ◌+◌, ◌-◌, ◌*◌, ◌/◌, ◌%◌, ◌<◌, ◌≤◌, ◌^◌, arith, [], ◌∷◌, ◌++◌, length, Bool, true, false, cond, ◌&&◌, Some, None, append-nil, append_assoc, length-append, refl, sym, ap, ap₂, subst, ◌∙◌}
use Rattle.std.specs.Prelude.{bytes_eq}
use Rattle.std.specs.Fmt.{decimal}
use Rattle.std.specs.Char.{digit_value}
use Rattle.std.specs.Str.Parse.{AllDigits, digits_value, digits_value_after}
use Rattle.std.proofs.lemmas.Fmt.{decimal_is_IsNumeral_wide, decimal_digit, decimal_step_wide, decimal_by_steps_wide}
use Rattle.std.proofs.lemmas.Slice.Eq.{bytes_eq-Decides}
use Rattle.std.proofs.lemmas.Str.{digit_value_digit}
use Rattle.std.proofs.lemmas.Str.Parse.{digit_from_value}
use Rattle.spec_numbers.specs.Texts.{Text}
use Rattle.spec_numbers.proofs.Tests.{le_true, true_le, both_are}
use Rattle.cq_frac.specs.Fits.{limit}
use Rattle.spec_log.specs.Verdicts.{whole_in, within}

-- the bytes are those of the number, or there are none yet
data Spelled : Text → ℕ → Type 0 where
  nothing : Spelled [] 0
  digits : {w : Text} {v : ℕ} → w ≡ decimal v → Spelled w v

-- what was read of a word
pub record Read (word rest : Text) (value : ℕ) : Type 0 where
  done : Text
  whole : word ≡ done ++ rest
  small : value < limit
  spelled : Spelled done value

pub started : (word : Text) → Read word word 0
started word = record { done = []; whole = refl; small = omega arith; spelled = nothing }

-- ---- one spelling

short : (v : ℕ) → v < limit → v < 10 ^ 64
short v h = omega (arith, h)

less_true : (v : ℕ) → v < limit → within v ≡ true
less_true v h = le_true (suc v) limit h

-- a number's own text is read as it
is_read : (word : Text) (v : ℕ) → v < limit → word ≡ decimal v → Some v ≡ whole_in word
is_read word v h e = go (bytes_eq (decimal m) word) (within m) written small
  where
    m : ℕ
    m = digits_value 10 word

    same : m ≡ v
    same = ap (digits_value 10) e ∙ (decimal_is_IsNumeral_wide v (short v h)).1

    written : bytes_eq (decimal m) word ≡ true
    written = (bytes_eq-Decides (decimal m) word).1 (ap decimal same ∙ sym e)

    small : within m ≡ true
    small = ap within same ∙ less_true v h

    go : (x y : Bool) → x ≡ true → y ≡ true → Some v ≡ cond (x && y) (Some m) None
    go true true a b = ap (λ n. Some n) (sym same)
    go true false a b = cc
    go false y a b = cc

-- no other text is
pub not_read : (word : Text) → ((v : ℕ) → v < limit → word ≡ decimal v → ⊥) → None ≡ whole_in word
not_read word never = go (bytes_eq (decimal m) word && within m) refl
  where
    m : ℕ
    m = digits_value 10 word

    go : (x : Bool) → (bytes_eq (decimal m) word && within m) ≡ x → None ≡ cond x (Some m) None
    go true e =
        let k = both_are (bytes_eq (decimal m) word) (within m) e in
        absurd (never m (true_le (suc m) limit k.1) (sym ((bytes_eq-Decides (decimal m) word).0 k.0)))
    go false e = refl

-- ---- the next digit

value_of : (w : Text) (v : ℕ) → v < limit → Spelled w v → digits_value 10 w ≡ v
value_of [] v h nothing = refl
value_of w v h (digits e) = ap (digits_value 10) e ∙ (decimal_is_IsNumeral_wide v (short v h)).1

one_more : (w : Text) (v d : ℕ) → Spelled w v → d < 10 → (v ≡ 0 → w ≡ []) → v * 10 + d < limit → Spelled (w ++ (48 + d) ∷ []) (v * 10 + d)
one_more [] v d nothing small first fits = let k : d ≡ 0 * 10 + d = omega arith in subst (Spelled ((48 + d) ∷ [])) k (digits (sym (decimal_digit d small)))
one_more w v d (digits e) small first fits = go v e first fits
  where
    go : (u : ℕ) → w ≡ decimal u → (u ≡ 0 → w ≡ []) → u * 10 + d < limit → Spelled (w ++ (48 + d) ∷ []) (u * 10 + d)
    go zero f g l = let k : d ≡ 0 * 10 + d = omega arith in subst (Spelled (w ++ (48 + d) ∷ [])) k (subst (λ s. Spelled (s ++ (48 + d) ∷ []) d) (sym (g refl)) (digits (sym (decimal_digit d small))))
    go (suc u) f g l =
        let n : ℕ = suc u * 10 + d in
        let front : n / 10 ≡ suc u = omega (arith, small) in
        let end : n % 10 ≡ d = omega (arith, small) in
        let k : decimal n ≡ decimal (n / 10) ++ (48 + n % 10) ∷ [] = decimal_step_wide n (omega arith) (short n l) in
        digits (ap₂ (λ s t. s ++ (48 + t) ∷ []) (f ∙ ap decimal (sym front)) (sym end) ∙ sym k)

pub next : (word tail : Text) (b value d more : ℕ) → Read word (b ∷ tail) value → (48 ≤ b) × (b ≤ 57) × (d ≡ b - 48)
    → (value ≡ 0 → length word ≤ length (b ∷ tail)) → (more ≡ value * 10 + d) × (more < limit) → Read word tail more
next word tail b value d more r digit first fits = record {
  done = r.done ++ b ∷ [];
  whole = r.whole ∙ sym (append_assoc r.done (b ∷ []) tail);
  small = fits.1;
  spelled =
      let is : 48 + d ≡ b = omega (arith, digit.0, digit.2) in
      let n : value * 10 + d < limit = subst (λ m. m < limit) fits.0 fits.1 in
      subst (Spelled (r.done ++ b ∷ [])) (sym fits.0)
      (subst (λ c. Spelled (r.done ++ c ∷ []) (value * 10 + d)) is (one_more r.done value d r.spelled (omega (arith, digit.1, digit.2)) nothing_yet n));
}
  where
    none : (w : Text) → length w ≡ 0 → w ≡ []
    none [] e = refl
    none (c ∷ w) e = absurd (omega (arith, e))

    nothing_yet : value ≡ 0 → r.done ≡ []
    nothing_yet e = none r.done (let k = first e in let m = ap length r.whole ∙ length-append r.done (b ∷ tail) in omega (arith, k, m))

-- ---- the end

pub finished : (word : Text) (value : ℕ) → Read word [] value → (length word ≡ 0 → ⊥) → Some value ≡ whole_in word
finished word value r some = go value r.small r.done r.spelled (r.whole ∙ append-nil r.done)
  where
    go : (v : ℕ) → v < limit → (w : Text) → Spelled w v → word ≡ w → Some v ≡ whole_in word
    go v h [] nothing e = absurd (some (ap length e))
    go v h w (digits f) e = is_read word v h (e ∙ f)

-- ---- what is no number

all_append : (u w : Text) → AllDigits 10 (u ++ w) → AllDigits 10 w
all_append [] w h = h
all_append (c ∷ u) w h = all_append u w h.1

value_append : (n : ℕ) (u w : Text) → digits_value_after 10 n (u ++ w) ≡ digits_value_after 10 (digits_value_after 10 n u) w
value_append n [] w = refl
value_append n (c ∷ u) w = value_append (n * 10 + digit_value c) u w

no_less : (n : ℕ) (w : Text) → n ≤ digits_value_after 10 n w
no_less n [] = omega arith
no_less n (c ∷ w) = let k = no_less (n * 10 + digit_value c) w in omega (arith, k)

pub empty_word : (word : Text) → length word ≡ 0 → None ≡ whole_in word
empty_word word e = not_read word (λ v h f. let k = (decimal_is_IsNumeral_wide v (short v h)).0.0 in let m = ap length f in omega (arith, e, k, m))

pub no_digit : (word tail : Text) (b value : ℕ) → Read word (b ∷ tail) value → (b < 48) ⊎ (57 < b) → None ≡ whole_in word
no_digit word tail b value r never = not_read word (λ v h f.
    let all = subst (AllDigits 10) (sym f ∙ r.whole) (decimal_is_IsNumeral_wide v (short v h)).0.1 in
    out (digit_from_value b (all_append r.done (b ∷ tail) all).0))
  where
    out : (48 ≤ b) × (b ≤ 57) → ⊥
    out k = elim never [ inl l ↦ omega (arith, k.0, l) | inr l ↦ omega (arith, k.1, l) ]

-- a number's text begins with 0 only where it is 0
abbrev first_of : Text → ℕ
first_of [] = 0
first_of (c ∷ w) = c

abbrev Begins : ℕ → Text → Type 0
Begins n w = (0 < n → 48 < first_of w) × (0 < length w)

begins : (n : ℕ) → n < 10 ^ 64 → Begins n (decimal n)
begins n h = decimal_by_steps_wide Begins one more n h
  where
    one : (m : ℕ) → m < 10 → Begins m ((48 + m) ∷ [])
    one m l = ((λ k. omega (arith, k)), omega arith)

    more : (m : ℕ) (w : Text) → 10 ≤ m → Begins (m / 10) w → Begins m (w ++ (48 + m % 10) ∷ [])
    more m [] l k = absurd (omega (arith, k.1))
    more m (c ∷ w) l k = ((λ z. k.0 (omega (arith, l))), omega arith)

zero_text : decimal 0 ≡ 48 ∷ []
zero_text = decimal_digit 0 (omega arith)

-- a digit behind a first 0 belongs to no number
two_digits : (b v : ℕ) (tail : Text) → v < limit → 48 ∷ b ∷ tail ≡ decimal v → ⊥
two_digits b zero tail h e = let k = ap length (e ∙ zero_text) in omega (arith, k)
two_digits b (suc v) tail h e =
    let k = (begins (suc v) (short (suc v) h)).0 (omega arith) in
    let m : 48 ≡ first_of (decimal (suc v)) = ap first_of e in
    omega (arith, k, m)

pub zero_first : (word tail : Text) (b : ℕ) → Read word (b ∷ tail) 0 → length (b ∷ tail) < length word → None ≡ whole_in word
zero_first word tail b r shorter = go r.done r.spelled r.whole
  where
    go : (w : Text) → Spelled w 0 → word ≡ w ++ b ∷ tail → None ≡ whole_in word
    go [] nothing e = absurd (let k = ap length e in omega (arith, k, shorter))
    go w (digits f) e =
        let text : word ≡ 48 ∷ b ∷ tail = e ∙ ap (λ s. s ++ b ∷ tail) (f ∙ zero_text) in
        not_read word (λ v h g. two_digits b v tail h (sym text ∙ g))

pub too_wide : (word tail : Text) (b value d : ℕ) → Read word (b ∷ tail) value → (48 ≤ b) × (b ≤ 57) × (d ≡ b - 48) → limit ≤ value * 10 + d
    → None ≡ whole_in word
too_wide word tail b value d r digit wide = not_read word (λ v h f.
    let same : digits_value 10 word ≡ v = ap (digits_value 10) f ∙ (decimal_is_IsNumeral_wide v (short v h)).1 in
    let parts : digits_value 10 word ≡ digits_value_after 10 (digits_value 10 r.done) (b ∷ tail) = ap (digits_value 10) r.whole ∙ value_append 0 r.done (b ∷ tail) in
    let done : digits_value 10 r.done ≡ value = value_of r.done value r.small r.spelled in
    let one : digit_value b + 48 ≡ b = digit_value_digit b (digit.0, digit.1) in
    let more = no_less (digits_value 10 r.done * 10 + digit_value b) tail in
    let start : digits_value 10 r.done * 10 + digit_value b ≡ value * 10 + d = ap₂ (λ x y. x * 10 + y) done (omega (arith, one, digit.2)) in
    omega (arith, h, wide, same, parts, more, start))

-- ---- as the loop finds the next byte

module _ (word rest tail : Text) (b value : ℕ) (r : Read word rest value) (split : rest ≡ b ∷ tail) where
  here : Read word (b ∷ tail) value
  here = subst (λ s. Read word s value) split r

  pub digit_behind_zero : value ≡ 0 → length rest < length word → None ≡ whole_in word
  digit_behind_zero none shorter = zero_first word tail b (subst (Read word (b ∷ tail)) none here) (subst (λ s. length s < length word) split shorter)

  pub other_byte : (b < 48) ⊎ (57 < b) → None ≡ whole_in word
  other_byte never = no_digit word tail b value here never

  pub digit_too_wide : (d : ℕ) → (48 ≤ b) × (b ≤ 57) × (d ≡ b - 48) → limit ≤ value * 10 + d → None ≡ whole_in word
  digit_too_wide d is wide = too_wide word tail b value d here is wide

  pub digit_next : (d more : ℕ) → (48 ≤ b) × (b ≤ 57) × (d ≡ b - 48) → (value ≡ 0 → length word ≤ length rest) → (more ≡ value * 10 + d) × (more < limit)
      → Read word tail more
  digit_next d more is first fits = next word tail b value d more here is (λ none. subst (λ s. length word ≤ length s) split (first none)) fits

pub read_small : (word rest : Text) (value : ℕ) → Read word rest value → value < limit
read_small word rest value r = r.small

pub all_read : (word rest : Text) (value : ℕ) → Read word rest value → length rest ≡ 0 → (length word ≡ 0 → ⊥) → Some value ≡ whole_in word
all_read word [] value r e some = finished word value r some
all_read word (b ∷ rest) value r e some = absurd (omega (arith, e))
