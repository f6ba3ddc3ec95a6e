-- Digits, quotes and fractions as the loops read them.
use Rattle.std.proofs.Common.{◌≡◌, ℕ, zero, suc, ◌+◌, ◌-◌, ◌*◌, ◌/◌, ◌<◌, ◌≤◌, ◌^◌, Bool, true, false, cond, List, [], ◌∷◌, ◌++◌, length, take, nat_lt, Option, Some, None, Result, Ok, Err, refl, sym, ap, subst, ◌∙◌, arith, append_assoc, drop, length-drop, pred, lit<, inl, inr}
use Rattle.std.specs.Prelude.{min, ◌==◌, if◌then◌else◌, pos, nat_abs}
use Rattle.std.specs.Char.{is_digit, digit_value}
use Rattle.std.specs.Str.{continuation_len}
use Rattle.std.proofs.Math.Nat.{mul-le-mul_left, div-le_self}
use Rattle.std.proofs.lemmas.Bool.Decides.{nat_tests}
use Rattle.spec_syntax.specs.declared.grammar.LexFault.{LexFault}
use Rattle.spec_syntax.proofs.Characters.{whole_char}
use Rattle.spec_syntax.proofs.Bounds.{ends_in_front}
use Rattle.spec_syntax.specs.Characters.{first_char}
use Rattle.spec_syntax.specs.Quotes.{digits_len, digits_onto, digits_value, Quoted, quoted, in_front, spelled, ends}
use Rattle.spec_syntax.specs.Numerals.{Spelling, whole, based, is_wide, character, escaped}
use Rattle.spec_syntax.specs.declared.grammar.Escape.{Escape}
use Rattle.spec_numbers.specs.Rational.{ratio, divided}
use Rattle.spec_numbers.specs.Gcd.{gcd}
use Rattle.cq_frac.specs.declared.FracFault.{FracFault}
use Rattle.cq_frac.specs.declared.FracFault.TheVariants.{Overflow, ZeroDivisor}
use Rattle.cq_frac.specs.Fits.{Exceeds}
use Rattle.cq_read.specs.declared.lex.numerals.Written.{Written}
use Rattle.cq_read.specs.declared.lex.numerals.Part.TheVariants.{There}
use Rattle.cq_read.specs.Written.{Finds, spelt}
use Rattle.cq_read.specs.declared.lex.quotes.Turn.TheVariants.{Go, Stop}
use Rattle.cq_read.specs.Turns.{behind, Follows}

either : (t : Bool) (m x y : ℕ) → m ≤ x → m ≤ y → m ≤ cond t x y
either true m x y p q = p
either false m x y p q = q

-- more digits make the number no smaller
onto_grows : (base value : ℕ) (bs : List ℕ) → 1 ≤ base → value ≤ digits_onto base value bs
onto_grows base value [] h = omega arith
onto_grows base value (b ∷ bs) h =
    let scaled : value ≤ value * base = omega (arith, mul-le-mul_left value h) in
    either (is_digit b base) value _ _ (omega (arith, scaled, onto_grows base (value * base + digit_value b) bs h)) (omega arith)

-- one digit more
pub onto_step : (base value b : ℕ) (bs : List ℕ) → is_digit b base ≡ true → digits_onto base value (b ∷ bs) ≡ digits_onto base (value * base + digit_value b) bs
onto_step base value b bs e = rw e refl

pub len_step : (base b : ℕ) (bs : List ℕ) → is_digit b base ≡ true → digits_len base (b ∷ bs) ≡ 1 + digits_len base bs
len_step base b bs e = rw e (omega arith)

-- a number that is too large stays so
pub too_large : (base value b most : ℕ) (bs : List ℕ) → 1 ≤ base → is_digit b base ≡ true → most ≤ value * base + digit_value b → most ≤ digits_onto base value (b ∷ bs)
too_large base value b most bs h e large = rw (onto_step base value b bs e) (omega (arith, onto_grows base (value * base + digit_value b) bs h))

no_digits : (base : ℕ) (bs : List ℕ) → digits_len base bs ≡ 0 → digits_value base bs ≡ 0
no_digits base [] e = refl
no_digits base (b ∷ bs) e = by (is_digit b base) e
  where
    by : (digit : Bool) → cond digit (1 + digits_len base bs) 0 ≡ 0 → cond digit (digits_onto base (0 * base + digit_value b) bs) 0 ≡ 0
    by true e = absurd (omega arith)
    by false e = refl

wide : (n size : ℕ) → 2 ^ 127 ≤ n → is_wide (whole n size) ≡ true
wide n size h = grind (arith, nat_tests)

-- digits of a number that is too large
pub based_wide : (base : ℕ) (bs : List ℕ) → 2 ^ 127 ≤ digits_value base bs → (s : Spelling) × (based base bs ≡ Some s) × (is_wide s ≡ true)
based_wide base bs h = by (digits_len base bs == 0) refl
  where
    by : (none : Bool) → (digits_len base bs == 0) ≡ none → (s : Spelling) × ((if none then None else Some (whole (digits_value base bs) (2 + digits_len base bs))) ≡ Some s) × (is_wide s ≡ true)
    by true e =
        let zero_len : digits_len base bs ≡ 0 = grind (arith, nat_tests) in
        absurd (omega (arith, no_digits base bs zero_len))
    by false e = (whole (digits_value base bs) (2 + digits_len base bs), refl, wide (digits_value base bs) (2 + digits_len base bs) h)

-- a number past the limit need not be kept exactly
pub capped : (base value limit : ℕ) (bs : List ℕ) → 1 ≤ base → min limit (digits_onto base (min value limit) bs) ≡ min limit (digits_onto base value bs)
capped base value limit bs h = by (nat_lt limit value) refl
  where
    by : (larger : Bool) → nat_lt limit value ≡ larger → min limit (digits_onto base (min value limit) bs) ≡ min limit (digits_onto base value bs)
    by true e =
        let lt : limit < value = grind (arith, nat_tests) in
        let at_limit : min value limit ≡ limit = omega arith in
        rw at_limit (omega (arith, onto_grows base limit bs h, onto_grows base value bs h))
    by false e =
        let le : value ≤ limit = grind (arith, nat_tests) in
        let same : min value limit ≡ value = omega arith in
        rw same refl

pub behind_in_front : (out : List ℕ) (c : Option ℕ) (r : Result Quoted LexFault) → behind out (in_front c r) ≡ behind (out ++ spelled c) r
behind_in_front out c (Ok q) = ap (λ text. Ok (record { text = text; stop = q.stop })) (sym (append_assoc out (spelled c) q.text))
behind_in_front out c (Err f) = refl

less : (m n : ℕ) → m < n → nat_lt m n ≡ true
less m n h = grind (arith, nat_tests)

-- what `to_digit` says of a byte
pub digit_of : (b x base d : ℕ) → x ≡ b → (digit_value x < base) × (d ≡ digit_value x) → (is_digit b base ≡ true) × (d ≡ digit_value b)
digit_of b x base d e h =
    let same = ap digit_value e in
    (less (digit_value b) base (subst (λ v. v < base) same h.0), h.1 ∙ same)

-- the loops over digits go on
pub capped_next : (base value b d limit r : ℕ) (rest tail : List ℕ) (goal : ℕ) → 1 ≤ base → rest ≡ b ∷ tail → (is_digit b base ≡ true) × (d ≡ digit_value b) → r ≡ min (value * base + d) limit
    → min limit (digits_onto base value rest) ≡ goal → min limit (digits_onto base r tail) ≡ goal
capped_next base value b d limit r rest tail goal h split digit is before =
    ap (λ x. min limit (digits_onto base x tail)) is ∙ capped base (value * base + d) limit tail h
    ∙ ap (λ x. min limit (digits_onto base (value * base + x) tail)) digit.1
    ∙ ap (min limit) (sym (onto_step base value b tail digit.0)) ∙ ap (λ bs. min limit (digits_onto base value bs)) (sym split) ∙ before

pub len_next : (base b len : ℕ) (rest tail : List ℕ) (goal : ℕ) → rest ≡ b ∷ tail → is_digit b base ≡ true → len + digits_len base rest ≡ goal → len + 1 + digits_len base tail ≡ goal
len_next base b len rest tail goal split digit before =
    let step : digits_len base rest ≡ 1 + digits_len base tail = ap (digits_len base) split ∙ len_step base b tail digit in
    omega (arith, step, before)

pub large_next : (base value b d most : ℕ) (rest tail : List ℕ) (goal : ℕ) → 1 ≤ base → rest ≡ b ∷ tail → (is_digit b base ≡ true) × (d ≡ digit_value b) → most ≤ value * base + d
    → digits_onto base value rest ≡ goal → most ≤ goal
large_next base value b d most rest tail goal h split digit large before =
    subst (λ n. most ≤ n) (ap (digits_onto base value) (sym split) ∙ before)
    (too_large base value b most tail h digit.0 (subst (λ x. most ≤ value * base + x) digit.1 large))

unequal : (b n : ℕ) → (b ≡ n → ⊥) → (b == n) ≡ false
unequal b n h = grind (arith, nat_tests)

-- a character behind `0'` is found
pub character_there : (text : List ℕ) (b : ℕ) (bs : List ℕ) (c : ℕ) (w : Written) → text ≡ b ∷ bs → (b ≡ 39 → ⊥) → (b ≡ 92 → ⊥) → (b ≡ 10 → ⊥) → Some c ≡ first_char text → c < 2 ^ 127
    → w.over ≡ c → w.under ≡ 1 → w.size ≡ 2 + suc (continuation_len b) → Finds (There w) (character text) (length text + 2)
character_there text b bs c w split no_quote no_escape no_line is small over under size =
    let first : first_char (b ∷ bs) ≡ Some c = ap first_char (sym split) ∙ sym is in
    let found : character (b ∷ bs) ≡ Some (whole c (3 + continuation_len b)) = rw (unequal b 39 no_quote, unequal b 92 no_escape, unequal b 10 no_line, first) refl in
    let sized : w.size ≡ 3 + continuation_len b = omega (arith, size) in
    let same : whole c (3 + continuation_len b) ≡ spelt w = λ i. record { over = sym over i; under = sym under i; size = sym sized i } in (
      ap character split ∙ found ∙ ap (λ s. Some s) same,
      record {
        over = subst (λ n. n < 2 ^ 127) (sym over) small;
        under = subst (λ n. n < 2 ^ 127) (sym under) (lit< tt);
        size = omega (arith, size, whole_char b bs c first, ap length split);
      },
    )

-- an escape behind `0'` is found
pub escaped_there : (r : Result Escape LexFault) (e : Escape) (c len : ℕ) (w : Written) → Ok e ≡ r → e.stands_for ≡ Some c → c < 2 ^ 127 → e.size ≤ len → w.over ≡ c → w.under ≡ 1 → w.size ≡ 3 + e.size
    → Finds (There w) (escaped r) (len + 3)
escaped_there r e c len w is stands small within over under size =
    let same : whole c (3 + e.size) ≡ spelt w = λ i. record { over = sym over i; under = sym under i; size = sym size i } in
    let found : escaped (Ok e) ≡ Some (whole c (3 + e.size)) = rw stands refl in (
      ap escaped (sym is) ∙ found ∙ ap (λ s. Some s) same,
      record {
        over = subst (λ n. n < 2 ^ 127) (sym over) small;
        under = subst (λ n. n < 2 ^ 127) (sym under) (lit< tt);
        size = omega (arith, size, within);
      },
    )

at_least_one : (x m : ℕ) → x ≤ m → 1 ≤ m → suc (pred x) ≤ m
at_least_one zero m h k = k
at_least_one (suc x) m h k = h

-- two numbers below the limit make a fraction
pub makes_fraction : (over under : ℕ) (f : FracFault) → over < 2 ^ 127 → under < 2 ^ 127 → 0 < under → (f ≡ ZeroDivisor → pos under ≡ pos 0) → (f ≡ Overflow → Exceeds (ratio (pos over) under)) → ⊥
unfolding ratio
makes_fraction over under ZeroDivisor h k l when_zero when_over = omega (arith, ap nat_abs (when_zero refl))
makes_fraction over under Overflow h k l when_zero when_over =
    let same : suc (pred under) ≤ under = at_least_one under under (omega arith) (omega arith) in
    elim (when_over refl) [
      | inl top ↦ omega (arith, top, div-le_self over (gcd over (suc (pred under))))
      | inr bottom ↦
          let q = suc (pred under) / gcd over (suc (pred under)) in
          let small : suc (pred q) ≤ under = at_least_one q under (omega (arith, same, div-le_self (suc (pred under)) (gcd over (suc (pred under))))) (omega arith) in
          omega (arith, bottom, small)
    ]

-- the loops over quotes go on
skip_next : (q s at b : ℕ) (tail : List ℕ) → 0 < s → quoted q s (b ∷ tail) at ≡ quoted q (s - 1) tail (at + 1)
skip_next q zero at b tail h = absurd (omega arith)
skip_next q (suc s) at b tail h = let e : s ≡ suc s - 1 = omega arith in ap (λ n. quoted q n tail (at + 1)) e

pub quoted_skip : (q s at b : ℕ) (rest tail : List ℕ) → rest ≡ b ∷ tail → 0 < s → quoted q s rest at ≡ quoted q (s - 1) tail (at + 1)
quoted_skip q s at b rest tail split h = ap (λ r. quoted q s r at) split ∙ skip_next q s at b tail h

pub quoted_go : (q skip at b : ℕ) (c : Option ℕ) (rest tail : List ℕ) → rest ≡ b ∷ tail → Follows (Go skip c) q rest at → quoted q 0 rest at ≡ in_front c (quoted q skip tail (at + 1))
quoted_go q skip at b c rest tail split follows =
    let here : Follows (Go skip c) q (b ∷ tail) at = subst (λ r. Follows (Go skip c) q r at) split follows in
    ap (λ r. quoted q 0 r at) split ∙ here

no_quoted : (f : LexFault) (a : Quoted) → (let r : Result Quoted LexFault = Err f in r ≡ Ok a) → ⊥
no_quoted f a e = cc

-- the text's end is a fault
pub no_end : (out : List ℕ) (f : LexFault) (held : Quoted) → behind out (Err f) ≡ Ok held → ⊥
no_end out f held e = no_quoted f held e

pub behind_skip : (out : List ℕ) (q s s' at b : ℕ) (rest tail : List ℕ) (goal : Result Quoted LexFault) → rest ≡ b ∷ tail → 0 < s → s' ≡ s - 1 → behind out (quoted q s rest at) ≡ goal → behind out (quoted q s' tail (at + 1)) ≡ goal
behind_skip out q s s' at b rest tail goal split h less before =
    ap (λ n. behind out (quoted q n tail (at + 1))) less ∙ sym (ap (behind out) (quoted_skip q s at b rest tail split h)) ∙ before

pub behind_go : (out out' : List ℕ) (q s s' skip at b : ℕ) (c : Option ℕ) (rest tail : List ℕ) (goal : Result Quoted LexFault) → rest ≡ b ∷ tail → s ≡ 0 → s' ≡ skip → out' ≡ out ++ spelled c → Follows (Go skip c) q rest at
    → behind out (quoted q s rest at) ≡ goal → behind out' (quoted q s' tail (at + 1)) ≡ goal
behind_go out out' q s s' skip at b c rest tail goal split none next longer follows before =
    ap (λ o. behind o (quoted q s' tail (at + 1))) longer ∙ ap (λ n. behind (out ++ spelled c) (quoted q n tail (at + 1))) next
    ∙ sym (behind_in_front out c (quoted q skip tail (at + 1))) ∙ sym (ap (behind out) (quoted_go q skip at b c rest tail split follows))
    ∙ ap (λ n. behind out (quoted q n rest at)) (sym none) ∙ before

pub ends_skip : (q s s' at b : ℕ) (rest tail : List ℕ) (goal : Result ℕ LexFault) → rest ≡ b ∷ tail → 0 < s → s' ≡ s - 1 → ends (quoted q s rest at) ≡ goal → ends (quoted q s' tail (at + 1)) ≡ goal
ends_skip q s s' at b rest tail goal split h less before =
    ap (λ n. ends (quoted q n tail (at + 1))) less ∙ sym (ap ends (quoted_skip q s at b rest tail split h)) ∙ before

pub ends_go : (q s s' skip at b : ℕ) (c : Option ℕ) (rest tail : List ℕ) (goal : Result ℕ LexFault) → rest ≡ b ∷ tail → s ≡ 0 → s' ≡ skip → Follows (Go skip c) q rest at
    → ends (quoted q s rest at) ≡ goal → ends (quoted q s' tail (at + 1)) ≡ goal
ends_go q s s' skip at b c rest tail goal split none next follows before =
    ap (λ n. ends (quoted q n tail (at + 1))) next ∙ sym (ends_in_front c (quoted q skip tail (at + 1))) ∙ sym (ap ends (quoted_go q skip at b c rest tail split follows))
    ∙ ap (λ n. ends (quoted q n rest at)) (sym none) ∙ before

take_all : (n : ℕ) (xs : List ℕ) → length xs ≤ n → take n xs ≡ xs
take_all zero [] h = refl
take_all zero (x ∷ xs) h = absurd (omega arith)
take_all (suc n) [] h = refl
take_all (suc n) (x ∷ xs) h = ap (λ ys. x ∷ ys) (take_all n xs (omega arith))

-- the rest of a text, as a range of it
pub rest_of : (xs : List ℕ) (k : ℕ) → take (length xs - k) (drop k xs) ≡ drop k xs
rest_of xs k = take_all (length xs - k) (drop k xs) (omega (arith, length-drop k xs))
