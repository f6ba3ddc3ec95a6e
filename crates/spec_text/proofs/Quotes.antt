-- A name in quotes is cut as it is written, and means the name again.
use Rattle.std.proofs.Common.{◌≡◌, ℕ, suc, ◌+◌, ◌<◌, ◌≤◌, Bool, true, false, List, [], ◌∷◌, ◌++◌, codes, length, length-append, append_assoc, append-nil, take, nat_lt, Some, Ok, refl, sym, ap, subst, ◌∙◌, arith}
use Rattle.std.specs.Prelude.{◌/◌, ◌%◌, ◌==◌, if◌then◌else◌, encode_utf8}
use Rattle.std.specs.Char.{is_control}
use Rattle.std.specs.Str.{chars, is_utf8, continuation_len, all_scalars, encode_utf8_all}
use Rattle.std.specs.Fmt.{digits_onto}
use Rattle.std.proofs.lemmas.Bool.Decides.{nat_tests}
use Rattle.std.proofs.lemmas.Bool.{and_parts}
use Rattle.std.proofs.lemmas.Str.{IsUtf8-encode, encode_ascii, chars-encodes, encodes-chars, scalars-chars, IsUtf8-from_is_utf8, is_utf8-from_IsUtf8}
use lib.Utf8.{scalar, encode}
use Rattle.spec_numbers.specs.Texts.{Text}
use Rattle.spec_numbers.proofs.Tests.{nat_eq-same}
use Rattle.spec_syntax.specs.Characters.{first_char, begins_with}
use Rattle.spec_syntax.specs.Quotes.{digits_value, is_scalar, quoted, in_front}
use Rattle.spec_syntax.proofs.Again.{character_again, letter_again, hexadecimal_again, closing_again}
use Rattle.spec_text.specs.Texts.{escaped, all_escaped}
use Rattle.spec_text.proofs.Wholes.{IsSome, number_some, hexadecimal_digits, hexadecimal_value}

-- ---- characters

-- the bytes of a character: the first says how many follow
pub record IsChar (c : ℕ) : Type 0 where
  pub first : ℕ
  pub others : List ℕ
  pub bytes : encode_utf8 c ≡ first ∷ others
  pub size : length others ≡ continuation_len first
  pub char : first_char (first ∷ others) ≡ Some c
  -- the first byte is the character, or past ASCII as the character is
  pub same : first < 128 → first ≡ c
  pub small : c < 128 → first ≡ c

take_all : (bs : List ℕ) (n : ℕ) → length bs ≡ n → take n bs ≡ bs
take_all bs n e = subst (λ m. take m bs ≡ bs) e (whole bs)
  where
    whole : (bs : List ℕ) → take (length bs) bs ≡ bs
    whole [] = refl
    whole (b ∷ bs) = ap (λ xs. b ∷ xs) (whole bs)

-- a character past ASCII with these bytes
past_ascii : (c b : ℕ) (bs : List ℕ) → scalar c ≡ true → 128 ≤ c → encode_utf8 c ≡ b ∷ bs → length bs ≡ continuation_len b → 128 ≤ b → IsChar c
unfolding first_char
past_ascii c b bs s high is size lead = record { first = b; others = bs; bytes = is; size = size; char = found; same = λ h. absurd (omega arith); small = λ h. absurd (omega arith) }
  where
    one : chars (b ∷ bs) ≡ c ∷ []
    one =
        let e : encode_utf8_all (c ∷ []) ≡ b ∷ bs = append-nil (encode_utf8 c) ∙ is in
        let t : all_scalars (c ∷ []) ≡ true = rw s refl in
        ap chars (sym e) ∙ chars-encodes (c ∷ []) t

    valid : is_utf8 (b ∷ bs) ≡ true
    valid = subst (λ x. is_utf8 x ≡ true) is (is_utf8-from_IsUtf8 _ (IsUtf8-encode c s))

    all : take (continuation_len b) bs ≡ bs
    all = take_all bs (continuation_len b) size

    found : first_char (b ∷ bs) ≡ Some c
    found = let big : nat_lt b 128 ≡ false = grind (arith, nat_tests) in rw (all, big, valid, one) refl

two_bytes : (c : ℕ) → 128 ≤ c → c < 2048 → encode c ≡ (192 + c / 64) ∷ (128 + c % 64) ∷ []
unfolding encode
two_bytes c h g = let a : nat_lt c 128 ≡ false = grind (arith, nat_tests) in let b : nat_lt c 2048 ≡ true = grind (arith, nat_tests) in rw (a, b) refl

three_bytes : (c : ℕ) → 2048 ≤ c → c < 65536 → encode c ≡ (224 + c / 4096) ∷ (128 + c / 64 % 64) ∷ (128 + c % 64) ∷ []
unfolding encode
three_bytes c h g =
    let a : nat_lt c 128 ≡ false = grind (arith, nat_tests) in
    let b : nat_lt c 2048 ≡ false = grind (arith, nat_tests) in
    let d : nat_lt c 65536 ≡ true = grind (arith, nat_tests) in rw (a, b, d) refl

four_bytes : (c : ℕ) → 65536 ≤ c → encode c ≡ (240 + c / 262144) ∷ (128 + c / 4096 % 64) ∷ (128 + c / 64 % 64) ∷ (128 + c % 64) ∷ []
unfolding encode
four_bytes c h =
    let a : nat_lt c 128 ≡ false = grind (arith, nat_tests) in
    let b : nat_lt c 2048 ≡ false = grind (arith, nat_tests) in
    let d : nat_lt c 65536 ≡ false = grind (arith, nat_tests) in rw (a, b, d) refl

one_follows : (b : ℕ) → 192 ≤ b → b < 224 → continuation_len b ≡ 1
one_follows b h g = grind (arith, nat_tests)

two_follow : (b : ℕ) → 224 ≤ b → b < 240 → continuation_len b ≡ 2
two_follow b h g = grind (arith, nat_tests)

three_follow : (b : ℕ) → 240 ≤ b → continuation_len b ≡ 3
three_follow b h = grind (arith, nat_tests)

none_follows : (b : ℕ) → b < 128 → continuation_len b ≡ 0
none_follows b h = grind (arith, nat_tests)

ascii_char : (c : ℕ) → c < 128 → IsChar c
unfolding first_char
ascii_char c h = record { first = c; others = []; bytes = encode_ascii c h; size = sym (none_follows c h); char = found; same = λ g. refl; small = λ g. refl }
  where
    found : first_char (c ∷ []) ≡ Some c
    found = let a : nat_lt c 128 ≡ true = grind (arith, nat_tests) in rw a refl

-- each Unicode scalar value is a character
pub is_char : (c : ℕ) → scalar c ≡ true → IsChar c
is_char c s = by (nat_lt c 128) (nat_lt c 2048) (nat_lt c 65536) refl refl refl
  where
    by : (x y z : Bool) → nat_lt c 128 ≡ x → nat_lt c 2048 ≡ y → nat_lt c 65536 ≡ z → IsChar c
    by true y z x1 y1 z1 = let h : c < 128 = grind (arith, nat_tests) in ascii_char c h
    by false true z x1 y1 z1 =
        let h : 128 ≤ c = grind (arith, nat_tests) in
        let g : c < 2048 = grind (arith, nat_tests) in
        past_ascii c (192 + c / 64) _ s h (two_bytes c h g) (sym (one_follows (192 + c / 64) (omega arith) (omega arith))) (omega arith)
    by false false true x1 y1 z1 =
        let h : 2048 ≤ c = grind (arith, nat_tests) in
        let g : c < 65536 = grind (arith, nat_tests) in
        past_ascii c (224 + c / 4096) _ s (omega arith) (three_bytes c h g) (sym (two_follow (224 + c / 4096) (omega arith) (omega arith))) (omega arith)
    by false false false x1 y1 z1 =
        let h : 65536 ≤ c = grind (arith, nat_tests) in
        past_ascii c (240 + c / 262144) _ s (omega arith) (four_bytes c h) (sym (three_follow (240 + c / 262144) (omega arith))) (omega arith)

-- ---- escapes

some_length : (ds : List ℕ) → IsSome ds → 0 < length ds
some_length [] h = elim h [ ]
some_length (d ∷ ds) h = omega arith

control_scalar : (c : ℕ) → is_control c ≡ true → is_scalar c ≡ true
control_scalar c e = grind (arith, nat_tests)

-- a character in quotes, written as it is or as an escape, is read again
escaped_again : (c : ℕ) (rest : List ℕ) (at : ℕ) → scalar c ≡ true → quoted 39 0 (escaped 39 c ++ rest) at ≡ in_front (Some c) (quoted 39 0 rest (at + length (escaped 39 c)))
escaped_again c rest at s = by (c == 92) (c == 39) (c == 10) (c == 9) (is_control c) refl refl refl refl refl
  where
    hex : Text
    hex = digits_onto (suc c) 16 false c []

    Again : Text → Type 0
    Again w = quoted 39 0 (w ++ rest) at ≡ in_front (Some c) (quoted 39 0 rest (at + length w))

    by_number : is_control c ≡ true → quoted 39 0 ((codes "\\x" ++ digits_onto (suc c) 16 false c [] ++ codes "\\") ++ rest) at ≡ in_front (Some c) (quoted 39 0 rest (at + length (codes "\\x" ++ digits_onto (suc c) 16 false c [] ++ codes "\\")))
    by_number e =
        let ds : Text = digits_onto (suc c) 16 false c [] in
        let v : digits_value 16 (digits_onto (suc c) 16 false c []) ≡ c = hexadecimal_value c in
        let scalar_value : is_scalar (digits_value 16 (digits_onto (suc c) 16 false c [])) ≡ true = rw v (control_scalar c e) in
        let same : (digits_onto (suc c) 16 false c [] ++ 92 ∷ []) ++ rest ≡ digits_onto (suc c) 16 false c [] ++ 92 ∷ rest = append_assoc (digits_onto (suc c) 16 false c []) (92 ∷ []) rest in
        let len : length (digits_onto (suc c) 16 false c [] ++ 92 ∷ []) ≡ length (digits_onto (suc c) 16 false c []) + 1 = length-append (digits_onto (suc c) 16 false c []) (92 ∷ []) in
        let end : at + length (digits_onto (suc c) 16 false c []) + 3 ≡ at + length (92 ∷ 120 ∷ (digits_onto (suc c) 16 false c [] ++ 92 ∷ [])) = omega (arith, len) in
        ap (λ xs. quoted 39 0 (92 ∷ 120 ∷ xs) at) same
        ∙ hexadecimal_again 39 (digits_onto (suc c) 16 false c []) rest at (hexadecimal_digits c) (some_length _ (number_some 16 c)) scalar_value refl
        ∙ ap (λ d. in_front (Some d) (quoted 39 0 rest (at + length (digits_onto (suc c) 16 false c []) + 3))) v
        ∙ ap (λ n. in_front (Some c) (quoted 39 0 rest n)) end

    as_it_is : (c == 92) ≡ false → (c == 39) ≡ false → (c == 10) ≡ false → quoted 39 0 (encode_utf8 c ++ rest) at ≡ in_front (Some c) (quoted 39 0 rest (at + length (encode_utf8 c)))
    as_it_is v w x =
        let k = is_char c s in
        let other : (n : ℕ) → n < 128 → (c == n) ≡ false → (k.first == n) ≡ false = λ n low d. not_that k.first n (λ e. not_same c n d (sym (k.same (omega (arith, e, low))) ∙ e)) in
        rw k.bytes (character_again 39 k.first k.others rest c at k.char k.size (other 10 (omega arith) x) (other 39 (omega arith) w) (other 92 (omega arith) v))
      where
        not_same : (m n : ℕ) → (m == n) ≡ false → m ≡ n → ⊥
        not_same m n d e = grind (arith, nat_tests)

        not_that : (m n : ℕ) → (m ≡ n → ⊥) → (m == n) ≡ false
        not_that m n d = go (m == n) refl
          where
            go : (b : Bool) → (m == n) ≡ b → b ≡ false
            go true e = absurd (d (nat_eq-same m n e))
            go false e = refl

    by : (v w x y z : Bool) → (c == 92) ≡ v → (c == 39) ≡ w → (c == 10) ≡ x → (c == 9) ≡ y → is_control c ≡ z →
        Again (if v then codes "\\\\" else if w then 92 ∷ 39 ∷ [] else if x then codes "\\n" else if y then codes "\\t" else if z then codes "\\x" ++ digits_onto (suc c) 16 false c [] ++ codes "\\" else encode_utf8 c)
    by true w x y z v1 w1 x1 y1 z1 = letter_again 39 92 rest c at (ap Some (sym (nat_eq-same c 92 v1))) refl
    by false true x y z v1 w1 x1 y1 z1 = letter_again 39 39 rest c at (ap Some (sym (nat_eq-same c 39 w1))) refl
    by false false true y z v1 w1 x1 y1 z1 = letter_again 39 110 rest c at (ap Some (sym (nat_eq-same c 10 x1))) refl
    by false false false true z v1 w1 x1 y1 z1 = letter_again 39 116 rest c at (ap Some (sym (nat_eq-same c 9 y1))) refl
    by false false false false true v1 w1 x1 y1 z1 = by_number z1
    by false false false false false v1 w1 x1 y1 z1 = as_it_is v1 w1 x1

-- ---- names

all_again : (cs more : List ℕ) (at : ℕ) → all_scalars cs ≡ true → begins_with 39 more ≡ false →
    quoted 39 0 (all_escaped 39 cs ++ 39 ∷ more) at ≡ Ok (record { text = encode_utf8_all cs; stop = at + length (all_escaped 39 cs) + 1 })
all_again [] more at s apart = closing_again 39 more at refl apart ∙ ap (λ n. Ok (record { text = []; stop = n })) (omega arith)
all_again (c ∷ cs) more at s apart =
    let p = and_parts (scalar c) (all_scalars cs) s in
    let rest = all_escaped 39 cs ++ 39 ∷ more in
    let there = at + length (escaped 39 c) in
    let len : length (escaped 39 c ++ all_escaped 39 cs) ≡ length (escaped 39 c) + length (all_escaped 39 cs) = length-append (escaped 39 c) (all_escaped 39 cs) in
    let stop : at + length (escaped 39 c) + length (all_escaped 39 cs) + 1 ≡ at + length (escaped 39 c ++ all_escaped 39 cs) + 1 = omega (arith, len) in
    ap (λ xs. quoted 39 0 xs at) (append_assoc (escaped 39 c) (all_escaped 39 cs) (39 ∷ more))
    ∙ escaped_again c (all_escaped 39 cs ++ 39 ∷ more) at p.0
    ∙ ap (in_front (Some c)) (all_again cs more (at + length (escaped 39 c)) p.1 apart)
    ∙ ap (λ n. Ok (record { text = encode_utf8 c ++ encode_utf8_all cs; stop = n })) stop

-- behind the opening quote a name in quotes is read again
pub quotes_again : (f more : List ℕ) (at : ℕ) → is_utf8 f ≡ true → begins_with 39 more ≡ false →
    quoted 39 0 (all_escaped 39 (chars f) ++ 39 ∷ more) at ≡ Ok (record { text = f; stop = at + length (all_escaped 39 (chars f)) + 1 })
quotes_again f more at valid apart =
    let u = IsUtf8-from_is_utf8 f valid in
    all_again (chars f) more at (scalars-chars f u) apart ∙ ap (λ t. Ok (record { text = t; stop = at + length (all_escaped 39 (chars f)) + 1 })) (encodes-chars f u)
