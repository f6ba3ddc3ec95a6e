-- A zero in front of a zero and a digit makes no difference to where reading goes on.
use Rattle.std.proofs.Common.{◌≡◌, ◌≢◌, ℕ, zero, suc, ◌+◌, Bool, true, false, List, [], ◌∷◌, drop, Option, Some, None, Result, Ok, Err, refl, sym, ap, subst, ◌∙◌, arith}
use Rattle.std.specs.Prelude.{◌&&◌, ◌==◌, if◌then◌else◌}
use Rattle.std.specs.Char.{is_ascii_digit}
use Rattle.std.proofs.lemmas.Bool.Decides.{nat_tests}
use Rattle.spec_syntax.specs.declared.grammar.Kind.TheVariants as kind
use Rattle.spec_syntax.specs.declared.grammar.Gap.TheVariants.{Between}
use Rattle.spec_syntax.specs.declared.grammar.LexFault.{LexFault}
use Rattle.spec_syntax.specs.declared.grammar.LexFault.TheVariants.{BadByte, WideNumber}
use Rattle.spec_syntax.specs.Characters.{begins, begins_with}
use Rattle.spec_syntax.specs.Gaps.{gap}
use Rattle.spec_syntax.specs.Quotes.{digits_len, digits_value}
use Rattle.spec_syntax.specs.Numerals.{Spelling, whole, fraction, plain, marked, is_wide, value, goes_on_as_fraction, goes_on_as_float}
use Rattle.spec_syntax.specs.GrammarTokens as lexical
use Rattle.spec_syntax.specs.GrammarTokens.{next_token, token_behind, token_at, numeral}
use Rattle.spec_syntax.proofs.Again.{numeral_again}
use Rattle.spec_text.specs.Readings.{Resumes, over, past}
use Rattle.spec_text.proofs.Once.{ResumesAt, resumes_at}
use Rattle.cq_read.specs.Zeros.{leads_with_zeros}

-- ---- the bytes at a place

first_byte : (c : ℕ) (bs : List ℕ) → begins_with c bs ≡ true → (tail : List ℕ) × (bs ≡ c ∷ tail)
first_byte c [] e = cc
first_byte c (b ∷ bs) e = let same : b ≡ c = grind (arith, nat_tests) in (bs, ap (λ x. x ∷ bs) same)

first_digit : (bs : List ℕ) → begins is_ascii_digit bs ≡ true → (d : ℕ) × (tail : List ℕ) × (bs ≡ d ∷ tail) × (is_ascii_digit d ≡ true)
first_digit [] e = cc
first_digit (b ∷ bs) e = (b, bs, refl, e)

drop_more : (text : List ℕ) (at b : ℕ) (bs : List ℕ) → drop at text ≡ b ∷ bs → drop (suc at) text ≡ bs
drop_more [] zero b bs e = cc
drop_more [] (suc at) b bs e = cc
drop_more (x ∷ text) zero b bs e = cc
drop_more (x ∷ text) (suc at) b bs e = drop_more text at b bs e

-- ---- the numeral that stands there

unmarked : (d : ℕ) (tail : List ℕ) → is_ascii_digit d ≡ true → marked (d ∷ tail) ≡ None
unmarked d tail digit =
    let no_x : (d == 120) ≡ false = grind (arith, nat_tests) in
    let no_o : (d == 111) ≡ false = grind (arith, nat_tests) in
    let no_b : (d == 98) ≡ false = grind (arith, nat_tests) in
    let no_quote : (d == 39) ≡ false = grind (arith, nat_tests) in
    rw (no_x, no_o, no_b, no_quote) refl

at_zero : (text : List ℕ) (at : ℕ) (bs : List ℕ) → drop at text ≡ 48 ∷ bs → marked bs ≡ None → next_token text at ≡ numeral (plain (48 ∷ bs)) (48 ∷ bs) at
at_zero text at bs e none = ap (λ xs. token_behind text (gap Between xs at)) e ∙ ap (λ xs. token_at xs at) e ∙ numeral_again 48 bs at refl (λ _. none)

-- one more digit in front of a numeral that means the same
longer_by : (b : Bool) (v n under more : ℕ) →
    (is_wide (if b then record { over = v; under = under; size = suc n + 1 + more } else whole v (suc n)) ≡ is_wide (if b then record { over = v; under = under; size = n + 1 + more } else whole v n))
    × ((if b then record { over = v; under = under; size = suc n + 1 + more } else whole v (suc n)).size ≡ suc (if b then record { over = v; under = under; size = n + 1 + more } else whole v n).size)
longer_by true v n under more = (refl, omega arith)
longer_by false v n under more = (refl, refl)

longer : (v n : ℕ) (bs : List ℕ) → (is_wide (fraction v (suc n) bs) ≡ is_wide (fraction v n bs)) × ((fraction v (suc n) bs).size ≡ suc (fraction v n bs).size)
longer v n bs = longer_by (goes_on_as_fraction bs) v n (digits_value 10 (drop 1 bs)) (digits_len 10 (drop 1 bs))

one_more : (cs : List ℕ) → digits_len 10 (48 ∷ cs) ≡ suc (digits_len 10 cs)
one_more cs = omega arith

zero_in_front : (cs : List ℕ) → plain (48 ∷ cs) ≡ fraction (digits_value 10 cs) (suc (digits_len 10 cs)) (drop (digits_len 10 cs) cs)
zero_in_front cs = ap (λ n. fraction (digits_value 10 cs) n (drop n (48 ∷ cs))) (one_more cs)

-- ---- where reading goes on

module _ (text : List ℕ) (at to : ℕ) (s u : Spelling) (bs cs : List ℕ) (first : next_token text at ≡ numeral s bs at) (second : next_token text (suc at) ≡ numeral u cs (suc at))
    (wide : is_wide s ≡ is_wide u) (float : goes_on_as_float (drop s.size bs) ≡ goes_on_as_float (drop u.size cs)) (size : s.size ≡ suc u.size) (r : Resumes text (suc at) to) where
  there : at + s.size ≡ suc at + u.size
  there = omega (arith, size)

  by_kind : (w : Bool) → is_wide u ≡ w → (f : Bool) → goes_on_as_float (drop u.size cs) ≡ f → Resumes text at to
  by_kind true w f g = let fault : numeral s bs at ≡ Err (WideNumber at) = rw (wide ∙ w) refl in past (first ∙ fault) r
  by_kind false w true g =
      let fault : numeral s bs at ≡ Err (BadByte (at + s.size)) = rw (wide ∙ w, float ∙ g) refl in
      let later : numeral u cs (suc at) ≡ Err (BadByte (suc at + u.size)) = rw (w, g) refl in
      past (first ∙ fault) (subst (λ p. Resumes text (suc p) to) (sym there) (subst (λ x. ResumesAt text x to) (second ∙ later) (resumes_at text (suc at) to r)))
  by_kind false w false g =
      let t : lexical.Token = record { kind = kind.Numeral; span = record { start = at; end = at + s.size }; number = Some (value s) } in
      let v : lexical.Token = record { kind = kind.Numeral; span = record { start = suc at; end = suc at + u.size }; number = Some (value u) } in
      let found : numeral s bs at ≡ Ok t = rw (wide ∙ w, float ∙ g) refl in
      let later : numeral u cs (suc at) ≡ Ok v = rw (w, g) refl in
      over (first ∙ found) (λ e. cc) (λ e. cc) (subst (λ p. Resumes text p to) (sym there) (subst (λ x. ResumesAt text x to) (second ∙ later) (resumes_at text (suc at) to r)))

  numeral_passed : Resumes text at to
  numeral_passed = by_kind (is_wide u) refl (goes_on_as_float (drop u.size cs)) refl

zero_passed : (text : List ℕ) (at to d : ℕ) (tail : List ℕ) → drop at text ≡ 48 ∷ 48 ∷ d ∷ tail → is_ascii_digit d ≡ true → Resumes text (suc at) to → Resumes text at to
zero_passed text at to d tail e digit r =
    let cs = 48 ∷ d ∷ tail in
    let v = digits_value 10 cs in
    let n = digits_len 10 cs in
    let bs = drop n cs in
    let l = longer v n bs in
    let first : next_token text at ≡ numeral (fraction v (suc n) bs) (48 ∷ cs) at = at_zero text at cs e refl ∙ ap (λ s. numeral s (48 ∷ cs) at) (zero_in_front cs) in
    let second : next_token text (suc at) ≡ numeral (plain cs) cs (suc at) = at_zero text (suc at) (d ∷ tail) (drop_more text at 48 cs e) (unmarked d tail digit) in
    numeral_passed text at to (fraction v (suc n) bs) (plain cs) (48 ∷ cs) cs first second l.0 (ap (λ k. goes_on_as_float (drop k (48 ∷ cs))) l.1) l.1 r

pub zeros_passed : (text : List ℕ) (at to : ℕ) → leads_with_zeros text at ≡ true → Resumes text (at + 1) to → Resumes text at to
zeros_passed text at to leads r = by (begins_with 48 (drop at text)) refl (begins_with 48 (drop (at + 1) text)) refl (begins is_ascii_digit (drop (at + 2) text)) refl leads
  where
    by : (a : Bool) → begins_with 48 (drop at text) ≡ a → (b : Bool) → begins_with 48 (drop (at + 1) text) ≡ b → (c : Bool) → begins is_ascii_digit (drop (at + 2) text) ≡ c → (a && b && c) ≡ true → Resumes text at to
    by true a true b true c e =
        let (bs, one) = first_byte 48 (drop at text) a in
        let (cs, two) = first_byte 48 (drop (at + 1) text) b in
        let (d, tail, three, digit) = first_digit (drop (at + 2) text) c in
        let next : at + 1 ≡ suc at = omega arith in
        let last : at + 2 ≡ suc (at + 1) = omega arith in
        let bs_is : bs ≡ 48 ∷ cs = sym (drop_more text at 48 bs one) ∙ ap (λ k. drop k text) (sym next) ∙ two in
        let cs_is : cs ≡ d ∷ tail = sym (drop_more text (at + 1) 48 cs two) ∙ ap (λ k. drop k text) (sym last) ∙ three in
        zero_passed text at to d tail (one ∙ ap (λ xs. 48 ∷ xs) (bs_is ∙ ap (λ xs. 48 ∷ xs) cs_is)) digit (subst (λ k. Resumes text k to) next r)
    by true a true b false c e = cc
    by true a false b c' c e = cc
    by false a b' b c' c e = cc
