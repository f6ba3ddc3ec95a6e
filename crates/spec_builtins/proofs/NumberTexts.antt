-- The codes of a number's text are read back as the number.
use Rattle.std.proofs.Common.{◌≡◌, ℕ, zero, suc, ◌+◌, ℤ, pos, negsuc, nat_abs, arith, List, [], ◌∷◌, ◌++◌, map, length, drop, Bool, true, false, cond, ◌&&◌, ◌==◌, nat_eq, nat_lt, Some, None, encode_utf8_all, append-nil, refl, sym, ap, ap₂, ◌∙◌}
use Rattle.std.specs.Prelude.{option_map, IsAscii}
use Rattle.std.specs.List.{list_all, prefix_len}
use Rattle.std.specs.Char.{is_digit, is_ascii_digit}
use lib.Utf8.{scalar}
use Rattle.std.proofs.lemmas.Bool.Decides.{nat_tests}
use Rattle.std.proofs.lemmas.Str.{encodes-IsAscii}
use Rattle.spec_numbers.specs.Gcd.{gcd}
use Rattle.spec_numbers.specs.Rational.{ℚ, neg_ℚ}
use Rattle.spec_numbers.proofs.RationalLemmas.{ratio_back}
use Rattle.spec_syntax.specs.Characters.{is_layout, begins, begins_with, first_char}
use Rattle.spec_syntax.specs.GrammarTokens.{token_at}
use Rattle.spec_syntax.specs.Laws.{AllPass}
use Rattle.spec_numbers.specs.Texts.{Text}
use Rattle.spec_numbers.proofs.Tests.{nat_eq-self}
use Rattle.spec_syntax.specs.Writing.{is_negative}
use Rattle.spec_syntax.specs.Trees.{Tree, list_tree}
use Rattle.spec_text.specs.Numbers.{whole_text, under_text, parts_text, number_text}
use Rattle.spec_text.specs.ReadingBack.{FitsNumber}
use Rattle.spec_text.proofs.Numerals.{StopsNumeral, number_cut, number_begins}
use Rattle.spec_text.proofs.Wholes.{whole_digits}
use Rattle.spec_terms.specs.Term.{Var, Number}
use Rattle.spec_builtins.specs.Built.{is_atom, natural}
use Rattle.spec_builtins.specs.Kinds.{natural_of, Parts}
use Rattle.spec_builtins.specs.Errors.{instantiation}
use Rattle.spec_builtins.specs.Alternatives.{◌≐◌, one_way, faults_if}
use Rattle.spec_builtins.specs.Texts.{is_code, whole_number, signed_number, number_in, number_read, codes_of_number, number_codes_row}
use Rattle.spec_builtins.proofs.Rebuilt.{parts-list_tree}
use Rattle.spec_builtins.proofs.Elements.{is_one_code, natural_back}

-- ---- a text of digits

nothing_follows : StopsNumeral []
unfolding first_char
nothing_follows = record { letters = refl; quote = refl; float = refl }

no_layout : (w : Text) → begins is_ascii_digit w ≡ true → drop (prefix_len is_layout w) w ≡ w
no_layout [] e = refl
no_layout (b ∷ bs) e =
    let k : is_layout b ≡ false = grind (arith, nat_tests) in
    ap (λ (x : Bool). drop (cond x (1 + prefix_len is_layout bs) 0) (b ∷ bs)) k

no_sign : (w : Text) → begins is_ascii_digit w ≡ true → begins_with 45 w ≡ false
no_sign [] e = refl
no_sign (b ∷ bs) e =
    let k : (b == 45) ≡ false = grind (arith, nat_tests) in
    k

-- ---- a number that isn't below zero

cut_whole : (q : ℚ) → FitsNumber q → is_negative q ≡ false
    → whole_number (number_text q) (token_at (number_text q) 0) ≡ Some q
cut_whole q fits sign =
    let c = ap (λ (w : Text). token_at w 0) (sym (append-nil (number_text q))) ∙ number_cut q [] 0 fits sign nothing_follows in
    ap (whole_number (number_text q)) c
    ∙ ap (λ (b : Bool). cond b (Some q) None) (let e : 0 + length (number_text q) ≡ length (number_text q) = omega arith in ap (λ (n : ℕ). nat_eq n (length (number_text q))) e ∙ nat_eq-self (length (number_text q)))

read_positive : (q : ℚ) → FitsNumber q → is_negative q ≡ false → number_in (number_text q) ≡ Some q
read_positive q fits sign =
    let d = number_begins q sign in
    ap signed_number (no_layout (number_text q) d)
    ∙ ap (λ (b : Bool). cond b (option_map neg_ℚ (whole_number (drop 1 (number_text q)) (token_at (drop 1 (number_text q)) 0))) (whole_number (number_text q) (token_at (number_text q) 0))) (no_sign (number_text q) d)
    ∙ cut_whole q fits sign

-- ---- any number

negated_back : (n below : ℕ) (low : gcd (suc n) (suc below) ≡ 1)
    → neg_ℚ (record { numerator = pos (suc n); below = below; lowest = low }) ≡ record { numerator = negsuc n; below = below; lowest = low }
unfolding neg_ℚ
negated_back n below low = ratio_back (record { numerator = negsuc n; below = below; lowest = low })

number_back : (z : ℤ) (below : ℕ) (low : gcd (nat_abs z) (suc below) ≡ 1)
    → FitsNumber (record { numerator = z; below = below; lowest = low })
    → number_in (number_text (record { numerator = z; below = below; lowest = low })) ≡ Some (record { numerator = z; below = below; lowest = low })
number_back (pos n) below low fits = read_positive (record { numerator = pos n; below = below; lowest = low }) fits refl
number_back (negsuc n) below low fits =
    ap (option_map neg_ℚ) (cut_whole (record { numerator = pos (suc n); below = below; lowest = low }) fits refl)
    ∙ ap (λ (q : ℚ). Some q) (negated_back n below low)

pub text_back : (q : ℚ) → FitsNumber q → number_in (number_text q) ≡ Some q
text_back q fits = number_back q.numerator q.below q.lowest fits

-- ---- its bytes are ASCII

abbrev AllBelow : Text → Type 0
AllBelow w = AllPass (λ b. nat_lt b 128) w

digits_below : (w : Text) → AllPass (λ b. is_digit b 10) w → AllBelow w
digits_below [] h = tt
digits_below (b ∷ bs) h =
    let d : is_digit b 10 ≡ true = h.0 in
    let k : nat_lt b 128 ≡ true = grind (arith, nat_tests) in
    (k, digits_below bs h.1)

below_append : (w x : Text) → AllBelow w → AllBelow x → AllBelow (w ++ x)
below_append [] x h k = k
below_append (b ∷ w) x h k = (h.0, below_append w x h.1 k)

under_below : (n : ℕ) → AllBelow (under_text n)
under_below zero = tt
under_below (suc n) = (refl, digits_below (whole_text (suc (suc n))) (whole_digits (suc (suc n))))

number_below : (q : ℚ) → AllBelow (number_text q)
number_below q = go q.numerator
  where
    go : (z : ℤ) → AllBelow (parts_text z q.below)
    go (pos n) = below_append (whole_text n) (under_text q.below) (digits_below (whole_text n) (whole_digits n)) (under_below q.below)
    go (negsuc n) = (refl, below_append (whole_text (suc n)) (under_text q.below) (digits_below (whole_text (suc n)) (whole_digits (suc n))) (under_below q.below))

ascii : (w : Text) → AllBelow w → IsAscii w
ascii [] h i = omega arith
ascii (b ∷ w) h zero =
    let k : nat_lt b 128 ≡ true = h.0 in
    grind (arith, nat_tests)
ascii (b ∷ w) h (suc i) = ascii w h.1 i

-- ---- the codes as a list

all_codes : (w : Text) → AllBelow w → list_all is_code (map natural w) ≡ true
all_codes [] h = refl
all_codes (b ∷ w) h =
    let k : nat_lt b 128 ≡ true = h.0 in
    let s : scalar b ≡ true = grind (arith, nat_tests) in
    ap₂ (λ (x y : Bool). x && y) (is_one_code b s) (all_codes w h.1)

naturals_back : (w : Text) → map natural_of (map natural w) ≡ w
naturals_back [] = refl
naturals_back (b ∷ w) = ap₂ (λ (n : ℕ) (ns : List ℕ). n ∷ ns) (natural_back b) (naturals_back w)

pub codes_back : (q : ℚ) (x : ℕ) → FitsNumber q
    → number_codes_row (Var x) (list_tree (map natural (number_text q))) ≡ one_way ((Var x ≐ Number q) ∷ [])
codes_back q x fits =
    let w : Text = number_text q in
    let l : Tree = list_tree (map natural w) in
    ap (λ (p : Parts). cond (is_atom "[]" p.tail && list_all is_code p.elements) (number_read (Var x) (number_in (encode_utf8_all (map natural_of p.elements)))) (faults_if true instantiation (codes_of_number (Var x) l))) (parts-list_tree (map natural w))
    ∙ ap (λ (b : Bool). cond b (number_read (Var x) (number_in (encode_utf8_all (map natural_of (map natural w))))) (faults_if true instantiation (codes_of_number (Var x) l))) (all_codes w (number_below q))
    ∙ ap (λ (v : Text). number_read (Var x) (number_in (encode_utf8_all v))) (naturals_back w)
    ∙ ap (λ (v : Text). number_read (Var x) (number_in v)) (encodes-IsAscii w (ascii w (number_below q)))
    ∙ ap (number_read (Var x)) (text_back q fits)
