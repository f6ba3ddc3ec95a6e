-- A character stands whole in the text that it begins.
use Rattle.std.proofs.Common.{◌≡◌, ℕ, zero, suc, ◌+◌, ◌-◌, ◌*◌, ◌<◌, ◌≤◌, Bool, true, false, List, [], ◌∷◌, length, take, nat_lt, slice_get, Option, Some, None, refl, sym, ap, ◌∙◌, arith}
use Rattle.std.specs.Prelude.{if◌then◌else◌}
use Rattle.std.specs.Str.{chars, chars_after, lead_bits, continuation_len}
use Rattle.std.proofs.lemmas.Bool.Decides.{nat_tests}
use Rattle.spec_syntax.specs.Characters.{first_char}

-- a character of which bytes are missing is none
pub short_chars : (n c : ℕ) (bs : List ℕ) → length bs < n → chars_after n c bs ≡ []
short_chars zero c bs h = absurd (omega arith)
short_chars (suc n) c [] h = refl
short_chars (suc n) c (b ∷ bs) h = short_chars n (c * 64 + (b - 128)) bs (omega arith)

take_short : (n : ℕ) (bs : List ℕ) → length bs < n → take n bs ≡ bs
take_short zero bs h = absurd (omega arith)
take_short (suc n) [] h = refl
take_short (suc n) (b ∷ bs) h = ap (λ xs. b ∷ xs) (take_short n bs (omega arith))

some_none : {A : Type 0} {x : A} → Some x ≡ None → ⊥
some_none e = cc

hidden : (ascii utf8 : Bool) (cs : List ℕ) (b : ℕ) → ascii ≡ false → cs ≡ [] → (if ascii then Some b else if utf8 then slice_get cs 0 else None) ≡ None
hidden ascii utf8 cs b e f = rw (e, f) (by utf8)
  where
    by : (u : Bool) → (let none : Option ℕ = None in (if u then none else none) ≡ none)
    by true = refl
    by false = refl

-- a character stands whole in the text that it begins
pub whole_char : (b : ℕ) (bs : List ℕ) (c : ℕ) → first_char (b ∷ bs) ≡ Some c → continuation_len b ≤ length bs
unfolding first_char chars
whole_char b bs c e = by (nat_lt (length bs) (continuation_len b)) refl
  where
    by : (short : Bool) → nat_lt (length bs) (continuation_len b) ≡ short → continuation_len b ≤ length bs
    by true s =
        let lt : length bs < continuation_len b = grind (arith, nat_tests) in
        let big : nat_lt b 128 ≡ false = grind (arith, nat_tests) in
        let all : take (continuation_len b) bs ≡ bs = take_short (continuation_len b) bs lt in
        let gone : chars_after (continuation_len b) (lead_bits b) bs ≡ [] = short_chars (continuation_len b) (lead_bits b) bs lt in
        let missing : first_char (b ∷ bs) ≡ None = hidden (nat_lt b 128) _ (chars_after (continuation_len b) (lead_bits b) (take (continuation_len b) bs)) b big (ap (chars_after (continuation_len b) (lead_bits b)) all ∙ gone) in
        absurd (some_none (sym e ∙ missing))
    by false s = grind (arith, nat_tests)
