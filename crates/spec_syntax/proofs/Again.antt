-- A token that is written is read again, where what follows does not go on with it.
use Rattle.std.proofs.Common.{◌≡◌, ℕ, zero, suc, ◌+◌, ◌*◌, ◌<◌, ◌≤◌, Bool, true, false, cond, List, [], ◌∷◌, ◌++◌, length, length-append, append_assoc, drop, nat_lt, Some, None, Result, Ok, refl, sym, ap, subst, ◌∙◌, arith}
use Rattle.std.specs.Prelude.{◌==◌, ◌||◌, ◌&&◌, if◌then◌else◌}
use Rattle.std.specs.Str.{continuation_len}
use Rattle.std.specs.List.{prefix_len}
use Rattle.std.specs.Char.{is_digit, digit_value, is_ascii_digit}
use Rattle.std.proofs.lemmas.Bool.Decides.{nat_tests}
use Rattle.std.proofs.lemmas.List.{take-append-le}
use Rattle.spec_syntax.specs.declared.grammar.Kind.TheVariants.{Name, Quoted, Codes, Variable, Punctuation, End}
use Rattle.spec_syntax.specs.declared.grammar.Escape.{Escape}
use Rattle.spec_syntax.specs.declared.grammar.LexFault.{LexFault}
use Rattle.spec_syntax.specs.Characters.{is_symbol, is_punctuation, begins, first_char, passes, starts_name, starts_variable, begins_with, name_end}
use Rattle.spec_syntax.specs.Quotes.{digits_len, digits_onto, digits_value, is_scalar, letter, numbered, escape_at, escape, quoted, in_front}
use Rattle.spec_syntax.specs.Numerals.{whole, plain, goes_on_as_fraction, marked, spelling_or}
use Rattle.spec_syntax.specs.GrammarTokens.{token, ends_clause, symbols, in_quotes, numeral, token_at}
use Rattle.spec_syntax.specs.Laws.{AllPass, Continues}

-- an ASCII byte is a character
pub first_char-ascii : (b : ℕ) (bs : List ℕ) → b < 128 → first_char (b ∷ bs) ≡ Some b
unfolding first_char
first_char-ascii b bs h = let small : nat_lt b 128 ≡ true = grind (arith, nat_tests) in rw small refl

-- a character that stands whole at the front of a text is its first, whatever follows
pub first_char-append : (b : ℕ) (bs more : List ℕ) → continuation_len b ≤ length bs → first_char (b ∷ (bs ++ more)) ≡ first_char (b ∷ bs)
unfolding first_char
first_char-append b bs more h = rw (take-append-le (continuation_len b) bs more h) refl

prefix_len-all : (test : ℕ → Bool) (bs rest : List ℕ) → AllPass test bs → prefix_len test rest ≡ 0 → prefix_len test (bs ++ rest) ≡ length bs
prefix_len-all test [] rest all stops = stops
prefix_len-all test (b ∷ bs) rest all stops = rw (all.0, prefix_len-all test bs rest all.1 stops) (omega arith)

name_end-append : (skip : ℕ) (bs more : List ℕ) (at end : ℕ) → end ≡ at + length bs → Continues skip bs → name_end 0 more end ≡ end → name_end skip (bs ++ more) at ≡ end
name_end-append zero [] more at end e whole stops = let same : end ≡ at = omega arith in subst (λ x. name_end 0 more x ≡ end) same stops
name_end-append (suc skip) [] more at end e whole stops = elim whole [ ]
name_end-append zero (b ∷ bs) more at end e whole stops =
    rw (first_char-append b bs more whole.1, whole.0) (name_end-append (continuation_len b) bs more (at + 1) end (omega arith) whole.2 stops)
name_end-append (suc skip) (b ∷ bs) more at end e whole stops = name_end-append skip bs more (at + 1) end (omega arith) whole stops

-- a name of letters is read again
pub name_again : (b : ℕ) (bs more : List ℕ) (at : ℕ) → passes starts_name (first_char (b ∷ bs)) ≡ true → continuation_len b ≤ length bs → Continues (continuation_len b) bs
    → name_end 0 more (at + length (b ∷ bs)) ≡ at + length (b ∷ bs) → token_at (b ∷ (bs ++ more)) at ≡ Ok (token Name at (at + length (b ∷ bs)))
name_again b bs more at starts whole continues stops =
    let e : at + length (b ∷ bs) ≡ at + 1 + length bs = omega arith in
    rw (first_char-append b bs more whole, starts, name_end-append (continuation_len b) bs more (at + 1) (at + length (b ∷ bs)) e continues stops) refl

-- a variable is read again
pub variable_again : (b : ℕ) (bs more : List ℕ) (at : ℕ) → starts_variable b ≡ true → Continues 0 bs → name_end 0 more (at + length (b ∷ bs)) ≡ at + length (b ∷ bs)
    → token_at (b ∷ (bs ++ more)) at ≡ Ok (token Variable at (at + length (b ∷ bs)))
variable_again b bs more at starts continues stops =
    let small : b < 128 = grind (arith, nat_tests) in
    let no_name : starts_name b ≡ false = grind (arith, nat_tests) in
    let e : at + length (b ∷ bs) ≡ at + 1 + length bs = omega arith in
    rw (first_char-ascii b (bs ++ more) small, no_name, starts, name_end-append 0 bs more (at + 1) (at + length (b ∷ bs)) e continues stops) refl

-- a sign that is a name by itself, a punctuation character and the end of a clause are read again
pub sign_again : (b : ℕ) (more : List ℕ) (at : ℕ) → ((b == 33) || (b == 59)) ≡ true → token_at (b ∷ more) at ≡ Ok (token Name at (at + 1))
sign_again b more at is =
    let small : b < 128 = grind (arith, nat_tests) in
    let no_name : starts_name b ≡ false = grind (arith, nat_tests) in
    let no_capital : starts_variable b ≡ false = grind (arith, nat_tests) in
    let no_symbol : is_symbol b ≡ false = grind (arith, nat_tests) in
    rw (first_char-ascii b more small, no_name, no_capital, no_symbol, is) refl

pub punctuation_again : (b : ℕ) (more : List ℕ) (at : ℕ) → is_punctuation b ≡ true → token_at (b ∷ more) at ≡ Ok (token Punctuation at (at + 1))
punctuation_again b more at is =
    let small : b < 128 = grind (arith, nat_tests) in
    let no_name : starts_name b ≡ false = grind (arith, nat_tests) in
    let no_capital : starts_variable b ≡ false = grind (arith, nat_tests) in
    let no_symbol : is_symbol b ≡ false = grind (arith, nat_tests) in
    let no_sign : ((b == 33) || (b == 59)) ≡ false = grind (arith, nat_tests) in
    rw (first_char-ascii b more small, no_name, no_capital, no_symbol, no_sign, is) refl

pub end_again : (more : List ℕ) (at : ℕ) → ends_clause more ≡ true → token_at (46 ∷ more) at ≡ Ok (token End at (at + 1))
end_again more at is = rw (first_char-ascii 46 more (omega arith), stops more is, is) refl
  where
    stops : (more : List ℕ) → ends_clause more ≡ true → prefix_len is_symbol more ≡ 0
    stops [] is = refl
    stops (b ∷ bs) is = let no_symbol : is_symbol b ≡ false = grind (arith, nat_tests) in rw no_symbol refl

pub opening_again : (bs : List ℕ) (at : ℕ) → (token_at (39 ∷ bs) at ≡ in_quotes Quoted at (quoted 39 0 bs (at + 1))) × (token_at (34 ∷ bs) at ≡ in_quotes Codes at (quoted 34 0 bs (at + 1)))
opening_again bs at = (rw (first_char-ascii 39 bs (omega arith)) refl, rw (first_char-ascii 34 bs (omega arith)) refl)

pub symbol_small : (b : ℕ) → is_symbol b ≡ true → b < 128
symbol_small b e = grind (arith, nat_tests)

pub symbol_starts_none : (b : ℕ) → is_symbol b ≡ true → starts_name b ≡ false
symbol_starts_none b e = grind (arith, nat_tests)

symbol_no_capital : (b : ℕ) → is_symbol b ≡ true → starts_variable b ≡ false
symbol_no_capital b e = grind (arith, nat_tests)

-- a name of symbol characters is read again
pub symbols_again : (b : ℕ) (bs more : List ℕ) (at : ℕ) → AllPass is_symbol (b ∷ bs) → prefix_len is_symbol more ≡ 0
    → ((b == 46) && (length (b ∷ bs) == 1) && ends_clause (drop (length (b ∷ bs)) (b ∷ (bs ++ more)))) ≡ false → token_at (b ∷ (bs ++ more)) at ≡ Ok (token Name at (at + length (b ∷ bs)))
symbols_again b bs more at all stops no_end =
    let len : prefix_len is_symbol (b ∷ (bs ++ more)) ≡ length (b ∷ bs) = prefix_len-all is_symbol (b ∷ bs) more all stops in
    let found : token_at (b ∷ (bs ++ more)) at ≡ Ok (symbols (prefix_len is_symbol (b ∷ (bs ++ more))) (b ∷ (bs ++ more)) at) =
    rw (first_char-ascii b (bs ++ more) (symbol_small b all.0), symbol_starts_none b all.0, symbol_no_capital b all.0, all.0) refl in
    found ∙ ap (λ n. Ok (symbols n (b ∷ (bs ++ more)) at)) len ∙ ap (λ t. Ok (token (if t then End else Name) at (at + length (b ∷ bs)))) no_end

-- digits are read again
len-append : (base : ℕ) (bs more : List ℕ) → AllPass (λ b. is_digit b base) bs → digits_len base more ≡ 0 → digits_len base (bs ++ more) ≡ length bs
len-append base bs more all stops = prefix_len-all (λ b. is_digit b base) bs more all stops

onto-stops : (base value : ℕ) (more : List ℕ) → digits_len base more ≡ 0 → digits_onto base value more ≡ value
onto-stops base value [] stops = refl
onto-stops base value (b ∷ more) stops = by (is_digit b base) stops
  where
    by : (digit : Bool) → cond digit (1 + digits_len base more) 0 ≡ 0 → (if digit then digits_onto base (value * base + digit_value b) more else value) ≡ value
    by true e = absurd (omega arith)
    by false e = refl

onto-append : (base value : ℕ) (bs more : List ℕ) → AllPass (λ b. is_digit b base) bs → digits_len base more ≡ 0 → digits_onto base value (bs ++ more) ≡ digits_onto base value bs
onto-append base value [] more all stops = onto-stops base value more stops
onto-append base value (b ∷ bs) more all stops = rw all.0 (onto-append base (value * base + digit_value b) bs more all.1 stops)

drop-length : (bs more : List ℕ) → drop (length bs) (bs ++ more) ≡ more
drop-length [] more = refl
drop-length (b ∷ bs) more = drop-length bs more

-- a whole number is spelled again
pub whole_again : (bs more : List ℕ) → AllPass (λ b. is_digit b 10) bs → digits_len 10 more ≡ 0 → goes_on_as_fraction more ≡ false → plain (bs ++ more) ≡ whole (digits_value 10 bs) (length bs)
whole_again bs more all stops whole_number =
    rw (onto-append 10 0 bs more all stops, len-append 10 bs more all stops, drop-length bs more, whole_number) refl

-- a fraction is spelled again
pub fraction_again : (bs ds more : List ℕ) → AllPass (λ b. is_digit b 10) bs → AllPass (λ b. is_digit b 10) ds → begins is_ascii_digit (ds ++ more) ≡ true → digits_len 10 more ≡ 0
    → plain (bs ++ 114 ∷ (ds ++ more)) ≡ record { over = digits_value 10 bs; under = digits_value 10 ds; size = length bs + 1 + length ds }
fraction_again bs ds more all all_below some stops =
    rw (onto-append 10 0 bs (114 ∷ (ds ++ more)) all refl, len-append 10 bs (114 ∷ (ds ++ more)) all refl, drop-length bs (114 ∷ (ds ++ more)), some, onto-append 10 0 ds more all_below stops, len-append 10 ds more all_below stops) refl

-- a numeral that does not begin with 0, or is 0 alone, is as it is spelled
pub numeral_again : (b : ℕ) (bs : List ℕ) (at : ℕ) → is_ascii_digit b ≡ true → (b ≡ 48 → marked bs ≡ None) → token_at (b ∷ bs) at ≡ numeral (plain (b ∷ bs)) (b ∷ bs) at
numeral_again b bs at digit unmarked = rw (first_char-ascii b bs small, no_start, no_capital, no_symbol, no_sign, no_punctuation, no_quote, no_quotes, digit) (by (b == 48) refl)
  where
    small : b < 128
    small = grind (arith, nat_tests)

    no_start : starts_name b ≡ false
    no_start = grind (arith, nat_tests)

    no_capital : starts_variable b ≡ false
    no_capital = grind (arith, nat_tests)

    no_symbol : is_symbol b ≡ false
    no_symbol = grind (arith, nat_tests)

    no_sign : ((b == 33) || (b == 59)) ≡ false
    no_sign = grind (arith, nat_tests)

    no_punctuation : is_punctuation b ≡ false
    no_punctuation = grind (arith, nat_tests)

    no_quote : (b == 39) ≡ false
    no_quote = grind (arith, nat_tests)

    no_quotes : (b == 34) ≡ false
    no_quotes = grind (arith, nat_tests)

    by : (zero : Bool) → (b == 48) ≡ zero → numeral (if zero then spelling_or (marked bs) (plain (b ∷ bs)) else plain (b ∷ bs)) (b ∷ bs) at ≡ numeral (plain (b ∷ bs)) (b ∷ bs) at
    by true e = let is_zero : b ≡ 48 = grind (arith, nat_tests) in ap (λ o. numeral (spelling_or o (plain (b ∷ bs))) (b ∷ bs) at) (unmarked is_zero)
    by false e = refl

skipped : (q : ℕ) (bs more : List ℕ) (at : ℕ) → quoted q (length bs) (bs ++ more) at ≡ quoted q 0 more (at + length bs)
skipped q [] more at = let e : at ≡ at + 0 = omega arith in ap (quoted q 0 more) e
skipped q (b ∷ bs) more at = let e : at + 1 + length bs ≡ at + length (b ∷ bs) = omega arith in skipped q bs more (at + 1) ∙ ap (quoted q 0 more) e

-- a character in quotes is read again
pub character_again : (q b : ℕ) (bs more : List ℕ) (c at : ℕ) → first_char (b ∷ bs) ≡ Some c → length bs ≡ continuation_len b → (b == 10) ≡ false → (b == q) ≡ false → (b == 92) ≡ false
    → quoted q 0 (b ∷ (bs ++ more)) at ≡ in_front (Some c) (quoted q 0 more (at + length (b ∷ bs)))
character_again q b bs more c at is whole no_line no_quote no_escape =
    let first : first_char (b ∷ (bs ++ more)) ≡ Some c = first_char-append b bs more (omega arith) ∙ is in
    let e : at + 1 + length bs ≡ at + length (b ∷ bs) = omega arith in
    rw (no_line, no_quote, no_escape, first)
    (ap (λ n. in_front (Some c) (quoted q n (bs ++ more) (at + 1))) (sym whole) ∙ ap (in_front (Some c)) (skipped q bs more (at + 1) ∙ ap (quoted q 0 more) e))

-- an escape of a letter or sign in quotes is read again
pub letter_again : (q b : ℕ) (more : List ℕ) (c at : ℕ) → letter b ≡ Some c → (92 == q) ≡ false → quoted q 0 (92 ∷ b ∷ more) at ≡ in_front (Some c) (quoted q 0 more (at + 2))
letter_again q b more c at is no_quote = let e : at + 1 + 1 ≡ at + 2 = omega arith in rw (no_quote, is) (ap (λ n. in_front (Some c) (quoted q 0 more n)) e)

itself : (n : ℕ) → (n == n) ≡ true
itself n = grind (arith, nat_tests)

-- a doubled quote is read again
pub doubled_again : (q : ℕ) (more : List ℕ) (at : ℕ) → (q == 10) ≡ false → quoted q 0 (q ∷ q ∷ more) at ≡ in_front (Some q) (quoted q 0 more (at + 2))
doubled_again q more at no_line = let e : at + 1 + 1 ≡ at + 2 = omega arith in rw (no_line, itself q) (ap (λ n. in_front (Some q) (quoted q 0 more n)) e)

-- a line that goes on is read again
pub line_again : (q : ℕ) (more : List ℕ) (at : ℕ) → (92 == q) ≡ false → quoted q 0 (92 ∷ 10 ∷ more) at ≡ in_front None (quoted q 0 more (at + 2))
line_again q more at no_quote = let e : at + 1 + 1 ≡ at + 2 = omega arith in rw no_quote (ap (λ n. in_front None (quoted q 0 more n)) e)

-- a numbered escape is read again
numbered_again : (base before : ℕ) (ds more : List ℕ) (at : ℕ) → AllPass (λ b. is_digit b base) ds → 0 < length ds → is_digit 92 base ≡ false → is_scalar (digits_value base ds) ≡ true
    → numbered base before (ds ++ 92 ∷ more) at ≡ Ok (record { size = before + length ds + 1; stands_for = Some (digits_value base ds) })
numbered_again base before ds more at all some no_digit scalar =
    let stops : digits_len base (92 ∷ more) ≡ 0 = rw no_digit refl in
    let any : (length ds == 0) ≡ false = grind (arith, nat_tests) in
    rw (onto-append base 0 ds (92 ∷ more) all stops, len-append base ds (92 ∷ more) all stops, drop-length ds (92 ∷ more), any, scalar) refl

escape_again : (q : ℕ) (bs more : List ℕ) (c at size : ℕ) → escape (bs ++ more) (at + 1) ≡ Ok (record { size = size; stands_for = Some c }) → size ≡ length bs → (92 == q) ≡ false
    → quoted q 0 (92 ∷ (bs ++ more)) at ≡ in_front (Some c) (quoted q 0 more (at + 1 + length bs))
escape_again q bs more c at size is e no_quote = rw (no_quote, is, e) (ap (in_front (Some c)) (skipped q bs more (at + 1)))

third : (first second test : Bool) (x y z w : Result Escape LexFault) → first ≡ false → second ≡ false → test ≡ true → (if first then x else if second then y else if test then z else w) ≡ z
third first second test x y z w e f g = rw (e, f, g) refl

octal_letter : (d : ℕ) → is_digit d 8 ≡ true → letter d ≡ None
octal_letter d is = grind (arith, nat_tests)

pub hexadecimal_again : (q : ℕ) (ds more : List ℕ) (at : ℕ) → AllPass (λ b. is_digit b 16) ds → 0 < length ds → is_scalar (digits_value 16 ds) ≡ true → (92 == q) ≡ false
    → quoted q 0 (92 ∷ 120 ∷ (ds ++ 92 ∷ more)) at ≡ in_front (Some (digits_value 16 ds)) (quoted q 0 more (at + length ds + 3))
hexadecimal_again q ds more at all some scalar no_quote =
    let bs = 120 ∷ (ds ++ 92 ∷ []) in
    let same : bs ++ more ≡ 120 ∷ (ds ++ 92 ∷ more) = ap (λ xs. 120 ∷ xs) (append_assoc ds (92 ∷ []) more) in
    let width : 1 + length ds + 1 ≡ length bs = omega (arith, length-append ds (92 ∷ [])) in
    let end : at + 1 + length bs ≡ at + length ds + 3 = omega arith in
    ap (λ xs. quoted q 0 (92 ∷ xs) at) (sym same)
    ∙ escape_again q bs more (digits_value 16 ds) at (1 + length ds + 1) (ap (λ xs. escape xs (at + 1)) same ∙ numbered_again 16 1 ds more (at + 1) all some refl scalar) width no_quote
    ∙ ap (λ n. in_front (Some (digits_value 16 ds)) (quoted q 0 more n)) end

pub octal_again : (q d : ℕ) (ds more : List ℕ) (at : ℕ) → AllPass (λ b. is_digit b 8) (d ∷ ds) → is_scalar (digits_value 8 (d ∷ ds)) ≡ true → (92 == q) ≡ false
    → quoted q 0 (92 ∷ d ∷ (ds ++ 92 ∷ more)) at ≡ in_front (Some (digits_value 8 (d ∷ ds))) (quoted q 0 more (at + length ds + 3))
octal_again q d ds more at all scalar no_quote =
    let bs = d ∷ (ds ++ 92 ∷ []) in
    let same : bs ++ more ≡ d ∷ (ds ++ 92 ∷ more) = ap (λ xs. d ∷ xs) (append_assoc ds (92 ∷ []) more) in
    let width : 0 + length (d ∷ ds) + 1 ≡ length bs = omega (arith, length-append ds (92 ∷ [])) in
    let end : at + 1 + length bs ≡ at + length ds + 3 = omega arith in
    ap (λ xs. quoted q 0 (92 ∷ xs) at) (sym same)
    ∙ escape_again q bs more (digits_value 8 (d ∷ ds)) at (0 + length (d ∷ ds) + 1) (ap (λ xs. escape xs (at + 1)) same ∙ found) width no_quote
    ∙ ap (λ n. in_front (Some (digits_value 8 (d ∷ ds))) (quoted q 0 more n)) end
  where
    is : is_digit d 8 ≡ true
    is = all.0

    no_letter : letter d ≡ None
    no_letter = octal_letter d is

    no_line : (d == 10) ≡ false
    no_line = grind (arith, nat_tests)

    no_mark : (d == 120) ≡ false
    no_mark = grind (arith, nat_tests)

    found : escape (d ∷ (ds ++ 92 ∷ more)) (at + 1) ≡ Ok (record { size = 0 + length (d ∷ ds) + 1; stands_for = Some (digits_value 8 (d ∷ ds)) })
    found =
        ap (λ k. escape_at k d (ds ++ 92 ∷ more) (at + 1)) no_letter
        ∙ third (d == 10) (d == 120) (is_digit d 8) _ _ _ _ no_line no_mark is
        ∙ numbered_again 8 0 (d ∷ ds) more (at + 1) all (omega arith) refl scalar

-- the closing quote is read again
pub closing_again : (q : ℕ) (more : List ℕ) (at : ℕ) → (q == 10) ≡ false → begins_with q more ≡ false → quoted q 0 (q ∷ more) at ≡ Ok (record { text = []; stop = at + 1 })
closing_again q more at no_line single = rw (no_line, itself q, single) refl
