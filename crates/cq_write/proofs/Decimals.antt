-- Numbers of variables and characters, as the library writes them.
use Rattle.std.proofs.Common.{◌≡◌, ℕ, zero, suc, ◌+◌, ◌/◌, ◌%◌, ◌<◌, ◌≤◌, ◌^◌, List, [], ◌∷◌, ◌++◌, false, cond, codes, sym, ap, ◌∙◌, arith, append_assoc, eq-eqb, ne_eqb, inl, inr}
use Rattle.std.proofs.lemmas.Bool.{cases_lt}
use Rattle.std.specs.Fmt.{decimal, digits, digits_onto, digit_glyph}
use Rattle.std.proofs.lemmas.Fmt.{hex_one_digit, hex_two_digits}
use Rattle.spec_text.specs.Numbers.{whole_text}
use Rattle.spec_text.proofs.Decimals.{whole_is}

-- out gains `_` and one more than a number
pub writes_counted : (n : ℕ) (old first : List ℕ) → n + 1 < 10 ^ 64 → first ≡ old ++ codes "_" → first ++ decimal (n + 1) ≡ old ++ (codes "_" ++ whole_text (1 + n))
writes_counted n old first small e =
    let same : n + 1 ≡ 1 + n = omega arith in
    ap (λ t. t ++ decimal (n + 1)) e ∙ append_assoc old (codes "_") (decimal (n + 1)) ∙ ap (λ t. old ++ (codes "_" ++ t)) (sym (whole_is (n + 1) small) ∙ ap whole_text same)

-- a small number in hexadecimal
hex_last : (k n : ℕ) → n < 16 → digits_onto (suc k) 16 false n [] ≡ digit_glyph false n ∷ []
hex_last k n h =
    let small : n / 16 ≡ 0 = omega arith in
    let own : n % 16 ≡ n = omega arith in
    ap (λ b. cond b (digit_glyph false (n % 16) ∷ []) (digits_onto k 16 false (n / 16) (digit_glyph false (n % 16) ∷ []))) (eq-eqb (n / 16) 0 small) ∙ ap (λ d. digit_glyph false d ∷ []) own

hex_two : (k n : ℕ) → 16 ≤ n → n < 256 → digits_onto (suc (suc k)) 16 false n [] ≡ digit_glyph false (n / 16) ∷ digit_glyph false (n % 16) ∷ []
hex_two k n low high =
    let large : n / 16 ≡ 0 → ⊥ = λ e. omega arith in
    let small : n / 16 / 16 ≡ 0 = omega arith in
    let own : (n / 16) % 16 ≡ n / 16 = omega arith in
    let acc : List ℕ = digit_glyph false (n % 16) ∷ [] in
    ap (λ b. cond b acc (digits_onto (suc k) 16 false (n / 16) acc)) (ne_eqb (n / 16) 0 large)
    ∙ ap (λ b. cond b (digit_glyph false ((n / 16) % 16) ∷ acc) (digits_onto k 16 false (n / 16 / 16) (digit_glyph false ((n / 16) % 16) ∷ acc))) (eq-eqb (n / 16 / 16) 0 small)
    ∙ ap (λ d. digit_glyph false d ∷ acc) own

hex_large : (n : ℕ) → 16 ≤ n → n < 256 → digits_onto (suc n) 16 false n [] ≡ digits 16 false n
hex_large zero low high = absurd (omega arith)
hex_large (suc n) low high = hex_two n (suc n) low high ∙ sym (hex_two_digits false (suc n) low high)

pub hex_is : (n : ℕ) → n < 256 → digits_onto (suc n) 16 false n [] ≡ digits 16 false n
hex_is n high = elim (cases_lt n 16) [
  | inl h ↦ hex_last n n h ∙ sym (hex_one_digit false n h)
  | inr h ↦ hex_large n h high
]
