-- The digits of a number whose parts are below 2 ^ 127, as the library writes them.
use Rattle.std.proofs.Common.{◌≡◌, ℕ, zero, suc, ◌+◌, ◌/◌, ◌%◌, ◌<◌, ◌≤◌, ◌^◌, ℤ, pos, negsuc, List, [], ◌∷◌, ◌++◌, false, cond, codes, refl, sym, ap, ◌∙◌, arith, of_z, append_assoc, append-nil, eq-eqb, ne_eqb, lt-ltb}
use mir.Syntax.{w128}
use Rattle.std.specs.Prelude.{nat_abs}
use Rattle.std.specs.Fmt.{decimal, signed_decimal, digits_onto, digit_glyph}
use Rattle.std.proofs.lemmas.Fmt.{decimal_by_steps_wide}
use Rattle.spec_numbers.specs.Rational.{ℚ, denominator}
use Rattle.spec_text.specs.Numbers.{whole_text, under_text, parts_text, number_text}

glyph : (n : ℕ) → digit_glyph false (n % 10) ≡ 48 + n % 10
glyph n = ap (λ b. cond b (48 + n % 10) (87 + n % 10)) (lt-ltb (n % 10) 10 (omega arith))

-- what is written of a number before acc
abbrev onto : ℕ → ℕ → List ℕ → List ℕ
onto k n acc = digits_onto k 10 false n acc

last : (k n : ℕ) (acc : List ℕ) → n / 10 ≡ 0 → onto (suc k) n acc ≡ digit_glyph false (n % 10) ∷ acc
last k n acc e = ap (λ b. cond b (digit_glyph false (n % 10) ∷ acc) (onto k (n / 10) (digit_glyph false (n % 10) ∷ acc))) (eq-eqb (n / 10) 0 e)

next : (k n : ℕ) (acc : List ℕ) → (n / 10 ≡ 0 → ⊥) → onto (suc k) n acc ≡ onto k (n / 10) (digit_glyph false (n % 10) ∷ acc)
next k n acc e = ap (λ b. cond b (digit_glyph false (n % 10) ∷ acc) (onto k (n / 10) (digit_glyph false (n % 10) ∷ acc))) (ne_eqb (n / 10) 0 e)

abbrev Writes : ℕ → List ℕ → Type 0
Writes n ds = (k : ℕ) (acc : List ℕ) → n < suc k → onto (suc k) n acc ≡ ds ++ acc

one : (n : ℕ) → n < 10 → Writes n ((48 + n) ∷ [])
one n small k acc h = last k n acc (omega arith) ∙ ap (λ d. d ∷ acc) (glyph n ∙ omega arith)

more : (n : ℕ) (ds : List ℕ) → 10 ≤ n → Writes (n / 10) ds → Writes n (ds ++ ((48 + n % 10) ∷ []))
more n ds large front zero acc h = absurd (omega arith)
more n ds large front (suc k) acc h =
    next (suc k) n acc (λ e. omega arith) ∙ front k (digit_glyph false (n % 10) ∷ acc) (omega arith)
    ∙ ap (λ d. ds ++ d ∷ acc) (glyph n) ∙ sym (append_assoc ds ((48 + n % 10) ∷ []) acc)

pub whole_is : (n : ℕ) → n < 10 ^ 64 → whole_text n ≡ decimal n
whole_is n small = decimal_by_steps_wide Writes one more n small n [] (omega arith) ∙ append-nil (decimal n)

top_is : (z : ℤ) (below : ℕ) → nat_abs z < 10 ^ 64 → parts_text z below ≡ signed_decimal z ++ under_text below
top_is (pos n) below h = ap (λ t. t ++ under_text below) (whole_is n h)
top_is (negsuc n) below h = ap (λ t. codes "-" ++ t ++ under_text below) (whole_is (suc n) h)

under_is : (below : ℕ) → suc below < 10 ^ 64 → (suc below ≡ 1 → ⊥) → under_text below ≡ codes "r" ++ decimal (suc below)
under_is zero h other = absurd (other refl)
under_is (suc n) h other = ap (λ t. codes "r" ++ t) (whole_is (suc (suc n)) h)

no_under : (below : ℕ) → suc below ≡ 1 → under_text below ≡ []
no_under zero h = refl
no_under (suc n) h = absurd (omega arith)

number_is : (q : ℚ) → nat_abs q.numerator < 2 ^ 127 → number_text q ≡ signed_decimal q.numerator ++ under_text q.below
number_is q t = top_is q.numerator q.below (omega (arith, t))

quotient_is : (q : ℚ) → nat_abs q.numerator < 2 ^ 127 → denominator q < 2 ^ 127 → (denominator q ≡ 1 → ⊥) → number_text q ≡ signed_decimal q.numerator ++ (codes "r" ++ signed_decimal (pos (denominator q)))
quotient_is q t b other = number_is q t ∙ ap (λ u. signed_decimal q.numerator ++ u) (under_is q.below (omega (arith, b)) other)

integer_is : (q : ℚ) → nat_abs q.numerator < 2 ^ 127 → denominator q ≡ 1 → number_text q ≡ signed_decimal q.numerator
integer_is q t is = number_is q t ∙ ap (λ u. signed_decimal q.numerator ++ u) (no_under q.below is) ∙ append-nil (signed_decimal q.numerator)

-- out gains the numerator alone
pub writes_integer : (q : ℚ) (n d : ℤ) (old out : List ℕ) → nat_abs q.numerator < 2 ^ 127 → n ≡ q.numerator → d ≡ pos (denominator q) → of_z w128 d ≡ 1 → out ≡ old ++ signed_decimal n → out ≡ old ++ number_text q
writes_integer q n d old out small top bottom is e =
    e ∙ ap (λ z. old ++ signed_decimal z) top ∙ ap (λ t. old ++ t) (sym (integer_is q small (sym (ap (of_z w128) bottom) ∙ is)))

-- out gains the numerator, `r` and the denominator
pub writes_quotient : (q : ℚ) (n d : ℤ) (old first second out : List ℕ) → nat_abs q.numerator < 2 ^ 127 → denominator q < 2 ^ 127 → n ≡ q.numerator → d ≡ pos (denominator q) → (of_z w128 d ≡ 1 → ⊥) →
    first ≡ old ++ signed_decimal n → second ≡ first ++ codes "r" → out ≡ second ++ signed_decimal d → out ≡ old ++ number_text q
writes_quotient q n d old first second out small few top bottom is e f g =
    let text = quotient_is q small few (λ one. is (ap (of_z w128) bottom ∙ one)) in
    g ∙ ap (λ t. t ++ signed_decimal d) (f ∙ ap (λ t. t ++ codes "r") e)
    ∙ append_assoc (old ++ signed_decimal n) (codes "r") (signed_decimal d) ∙ append_assoc old (signed_decimal n) (codes "r" ++ signed_decimal d)
    ∙ ap (λ t. old ++ t) (ap (λ z. signed_decimal z ++ (codes "r" ++ signed_decimal d)) top ∙ ap (λ z. signed_decimal q.numerator ++ (codes "r" ++ signed_decimal z)) bottom ∙ sym text)
