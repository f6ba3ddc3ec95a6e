-- The first and the last characters of the texts of tokens.
use Rattle.std.proofs.Common.{◌≡◌, ℕ, zero, suc, ◌+◌, ◌<◌, ◌≤◌, ℤ, pos, negsuc, Bool, true, false, ◌&&◌, ◌||◌, List, [], ◌∷◌, ◌++◌, codes, length, nat_lt, Option, Some, None, refl, sym, ap, subst, ◌∙◌, arith}
use Rattle.std.specs.Prelude.{◌==◌, encode_utf8}
use Rattle.std.specs.Char.{is_digit, is_ascii_digit}
use Rattle.std.specs.Str.{is_utf8, chars, IsAscii, continuation_len, all_scalars, encode_utf8_all}
use Rattle.std.proofs.lemmas.Bool.Decides.{nat_tests}
use Rattle.std.proofs.lemmas.Bool.{and_parts, false≢true, false_from_ne_true}
use Rattle.std.proofs.lemmas.Str.{chars-IsAscii, encodes-chars, scalars-chars, IsUtf8-from_is_utf8}
use lib.Utf8.{scalar}
use Rattle.spec_numbers.specs.Rational.{ℚ}
use Rattle.spec_numbers.specs.Texts.{Text}
use Rattle.spec_numbers.proofs.Tests.{or_left, or_right}
use Rattle.spec_syntax.specs.Characters.{is_symbol, starts_name, continues_name, begins, begins_with, first_char, passes}
use Rattle.spec_syntax.specs.Numerals.{goes_on_as_float}
use Rattle.spec_syntax.specs.Laws.{AllPass, Continues}
use Rattle.spec_syntax.proofs.Again.{first_char-ascii, first_char-append, symbol_small, symbol_starts_none}
use Rattle.spec_syntax.specs.Tokens.{Token, Variable, Numeral, Codes, Named, Functor, Minus, Open, Close, OpenList, CloseList, OpenCurly, CloseCurly, Comma, Bar, End}
use Rattle.spec_syntax.specs.Writing.{is_negative, needs_quotes}
use Rattle.spec_text.specs.declared.writing.Style.TheVariants.{Quoted}
use Rattle.spec_text.specs.Numbers.{whole_text, under_text, number_text}
use Rattle.spec_text.specs.Texts.{last_of, ends_name, name_text, in_quotes, token_text}
use Rattle.spec_text.specs.Written.{counted_name}
use Rattle.spec_text.proofs.Wholes.{IsSome, some-append, whole_some, whole_digits}
use Rattle.spec_text.proofs.Quotes.{is_char}
use Rattle.spec_text.proofs.Numerals.{number_begins}
use Rattle.spec_text.proofs.WritingNames.{BareKind, Letters, Symbols, Sign, bare_kind, some_bare}
use Rattle.spec_text.proofs.Marks.{bare_text}
use Rattle.spec_text.proofs.TokenCuts.{quoted_text_is}
use Rattle.spec_text.proofs.Stops.{IsWritableName, IsWritable}

-- ---- tests of bytes

-- a byte below 128 that begins a name of letters is a small letter
letter_byte : (b n : ℕ) (bs : List ℕ) → passes starts_name (first_char (b ∷ bs)) ≡ true → n < 128 → starts_name n ≡ false → (b == n) ≡ false
letter_byte b n bs starts low no_start = false_from_ne_true (b == n) (λ e.
    let same : b ≡ n = grind (arith, nat_tests) in
    false≢true (sym no_start ∙ ap (passes starts_name) (sym (first_char-ascii b bs (omega (arith, same, low)) ∙ ap Some same)) ∙ starts))

starts_no_digit : (b : ℕ) (bs : List ℕ) → passes starts_name (first_char (b ∷ bs)) ≡ true → is_ascii_digit b ≡ false
starts_no_digit b bs starts = false_from_ne_true (is_ascii_digit b) (λ e.
    let low : b < 128 = grind (arith, nat_tests) in
    let none : starts_name b ≡ false = grind (arith, nat_tests) in
    false≢true (sym none ∙ ap (passes starts_name) (sym (first_char-ascii b bs low)) ∙ starts))

symbol_not : (b n : ℕ) → is_symbol b ≡ true → is_symbol n ≡ false → (b == n) ≡ false
symbol_not b n symbol other = false_from_ne_true (b == n) (λ e. let same : b ≡ n = grind (arith, nat_tests) in false≢true (sym other ∙ ap is_symbol (sym same) ∙ symbol))

symbol_no_digit : (b : ℕ) → is_symbol b ≡ true → is_ascii_digit b ≡ false
symbol_no_digit b e = grind (arith, nat_tests)

sign_not : (b n : ℕ) → ((b == 33) || (b == 59)) ≡ true → (n == 33) ≡ false → (n == 59) ≡ false → (b == n) ≡ false
sign_not b n sign f g = grind (arith, nat_tests)

sign_no_digit : (b : ℕ) → ((b == 33) || (b == 59)) ≡ true → is_ascii_digit b ≡ false
sign_no_digit b e = grind (arith, nat_tests)

-- ---- first characters

-- the first character stands whole in the text
abbrev pub IsWhole : Text → Type 0
IsWhole [] = ⊥
IsWhole (b ∷ bs) = continuation_len b ≤ length bs

pub first_char-behind : (w any : Text) → IsWhole w → first_char (w ++ any) ≡ first_char w
first_char-behind [] any h = elim h [ ]
first_char-behind (b ∷ bs) any h = first_char-append b bs any h

pub begins-behind : (test : ℕ → Bool) (w any : Text) → IsWhole w → begins test (w ++ any) ≡ begins test w
begins-behind test [] any h = elim h [ ]
begins-behind test (b ∷ bs) any h = refl

ascii_whole : (b : ℕ) (bs : List ℕ) → b < 128 → continuation_len b ≤ length bs
ascii_whole b bs h = let z : continuation_len b ≡ 0 = grind (arith, nat_tests) in omega (arith, z)

-- what a name without quotes begins with
pub record BareFront (f : Text) : Type 0 where
  pub whole : IsWhole f
  pub no_open : begins_with 40 f ≡ false
  pub no_quote : begins_with 39 f ≡ false
  pub no_digit : begins is_ascii_digit f ≡ false
  pub no_float : (any : Text) → goes_on_as_float (f ++ any) ≡ false

front_by : (b : ℕ) (bs : List ℕ) → BareKind b bs → BareFront (b ∷ bs)
front_by b bs (Letters starts size continues) = record {
  whole = size;
  no_open = letter_byte b 40 bs starts (omega arith) refl;
  no_quote = letter_byte b 39 bs starts (omega arith) refl;
  no_digit = starts_no_digit b bs starts;
  no_float = λ any. rw (letter_byte b 46 bs starts (omega arith) refl) refl;
}
front_by b bs (Symbols all no_stop) = record {
  whole = ascii_whole b bs (symbol_small b all.0);
  no_open = symbol_not b 40 all.0 refl;
  no_quote = symbol_not b 39 all.0 refl;
  no_digit = symbol_no_digit b all.0;
  no_float = λ any. float any bs all.1 refl (b == 46) refl;
}
  where
    float : (any : Text) (cs : List ℕ) → AllPass is_symbol cs → bs ≡ cs → (x : Bool) → (b == 46) ≡ x → (x && begins is_ascii_digit (cs ++ any)) ≡ false
    float any cs rest e false x = refl
    float any (c ∷ cs) rest e true x = symbol_no_digit c rest.0
    float any [] rest e true x = absurd (no_stop (let same : b ≡ 46 = grind (arith, nat_tests) in same) e)
front_by b bs (Sign sign alone) = record {
  whole = ascii_whole b bs (let low : b < 128 = grind (arith, nat_tests) in low);
  no_open = sign_not b 40 sign refl refl;
  no_quote = sign_not b 39 sign refl refl;
  no_digit = sign_no_digit b sign;
  no_float = λ any. rw (sign_not b 46 sign refl refl) refl;
}

pub bare_front : (f : Text) → needs_quotes f ≡ false → BareFront f
bare_front [] e = absurd (some_bare e)
bare_front (b ∷ bs) e = front_by b bs (bare_kind b bs e)

-- the text of a name begins with a quote, or as the name that needs none
pub record NameFront (f : Text) : Type 0 where
  pub whole : IsWhole (name_text Quoted f)
  pub no_open : begins_with 40 (name_text Quoted f) ≡ false
  pub no_digit : begins is_ascii_digit (name_text Quoted f) ≡ false

pub name_front : (f : Text) → IsWritableName f → NameFront f
name_front f w = by (needs_quotes f) refl
  where
    by : (x : Bool) → needs_quotes f ≡ x → NameFront f
    by true e =
        let text : in_quotes 39 f ≡ name_text Quoted f = sym (quoted_text_is f w e) in
        record {
          whole = subst IsWhole text (ascii_whole 39 _ (omega arith));
          no_open = subst (λ t. begins_with 40 t ≡ false) text refl;
          no_digit = subst (λ t. begins is_ascii_digit t ≡ false) text refl;
        }
    by false e =
        let text : f ≡ name_text Quoted f = sym (bare_text f e) in
        let front = bare_front f e in
        record {
          whole = subst IsWhole text front.whole;
          no_open = subst (λ t. begins_with 40 t ≡ false) text front.no_open;
          no_digit = subst (λ t. begins is_ascii_digit t ≡ false) text front.no_digit;
        }

digit_whole : (w : Text) → begins is_ascii_digit w ≡ true → IsWhole w
digit_whole [] e = cc
digit_whole (b ∷ bs) e = ascii_whole b bs (let low : b < 128 = grind (arith, nat_tests) in low)

-- the first character of each token's text stands whole
pub text_whole : (tok : Token) → IsWritable tok → IsWhole (token_text Quoted counted_name tok)
text_whole (Variable v) w = omega arith
text_whole (Numeral q) w = digit_whole (number_text q) (number_begins q w.1)
text_whole (Codes bytes) w = elim w [ ]
text_whole (Named f quoted) w = (name_front f w.0).whole
text_whole (Functor f) w = (name_front f w).whole
text_whole Minus w = omega arith
text_whole Open w = omega arith
text_whole Close w = omega arith
text_whole OpenList w = omega arith
text_whole CloseList w = omega arith
text_whole OpenCurly w = omega arith
text_whole CloseCurly w = omega arith
text_whole Comma w = omega arith
text_whole Bar w = omega arith
text_whole End w = elim w [ ]

-- ---- last characters

last_passes : (test : ℕ → Bool) (cs : List ℕ) → IsSome cs → AllPass test cs → passes test (last_of cs) ≡ true
last_passes test [] some all = elim some [ ]
last_passes test (c ∷ []) some all = all.0
last_passes test (c ∷ d ∷ cs) some all = last_passes test (d ∷ cs) tt all.1

ascii_bytes : (test : ℕ → Bool) → ((b : ℕ) → test b ≡ true → b < 128) → (w : Text) → AllPass test w → IsAscii w
ascii_bytes test low [] all i = omega arith
ascii_bytes test low (b ∷ bs) all zero = low b all.0
ascii_bytes test low (b ∷ bs) all (suc i) = ascii_bytes test low bs all.1 i

-- the last character of a text of bytes below 128
last_ascii : (test : ℕ → Bool) → ((b : ℕ) → test b ≡ true → b < 128) → (w : Text) → IsSome w → AllPass test w → passes test (last_of (chars w)) ≡ true
last_ascii test low w some all = rw (chars-IsAscii w (ascii_bytes test low w all)) (last_passes test w some all)

-- a letter, a digit or `_`, below 128
abbrev is_word : ℕ → Bool
is_word b = nat_lt b 128 && ends_name b

word_small : (b : ℕ) → is_word b ≡ true → b < 128
word_small b e = let h = (and_parts (nat_lt b 128) (ends_name b) e).0 in grind (arith, nat_tests)

digit_word : (b : ℕ) → is_digit b 10 ≡ true → is_word b ≡ true
digit_word b e =
    let small : nat_lt b 128 ≡ true = grind (arith, nat_tests) in
    let goes : continues_name b ≡ true = grind (arith, nat_tests) in
    rw (goes, or_right (starts_name b) true refl, small) refl

words_of_digits : (w : Text) → AllPass (λ b. is_digit b 10) w → AllPass is_word w
words_of_digits [] all = tt
words_of_digits (b ∷ bs) all = (digit_word b all.0, words_of_digits bs all.1)

words-append : (w x : Text) → AllPass is_word w → AllPass is_word x → AllPass is_word (w ++ x)
words-append [] x a b = b
words-append (c ∷ w) x a b = (a.0, words-append w x a.1 b)

passes_weaker : (o : Option ℕ) → passes is_word o ≡ true → passes ends_name o ≡ true
passes_weaker None e = e
passes_weaker (Some c) e = (and_parts (nat_lt c 128) (ends_name c) e).1

last_word : (w : Text) → IsSome w → AllPass is_word w → passes ends_name (last_of (chars w)) ≡ true
last_word w some all = passes_weaker (last_of (chars w)) (last_ascii is_word word_small w some all)

pub variable_ends : (v : ℕ) → passes ends_name (last_of (chars (counted_name v))) ≡ true
variable_ends v = last_word (counted_name v) tt (refl, words_of_digits (whole_text (1 + v)) (whole_digits (1 + v)))

pub numeral_ends : (q : ℚ) → is_negative q ≡ false → passes ends_name (last_of (chars (number_text q))) ≡ true
numeral_ends q sign = by q.numerator q.below sign
  where
    under : (below : ℕ) → AllPass is_word (under_text below)
    under zero = tt
    under (suc m) = (refl, words_of_digits (whole_text (suc (suc m))) (whole_digits (suc (suc m))))

    by : (z : ℤ) (below : ℕ) → (elim z [ pos n ↦ false | negsuc n ↦ true ]) ≡ false →
        passes ends_name (last_of (chars (elim z [ pos n ↦ whole_text n ++ under_text below | negsuc n ↦ codes "-" ++ whole_text (suc n) ++ under_text below ]))) ≡ true
    by (negsuc n) below e = cc
    by (pos n) below e = last_word (whole_text n ++ under_text below) (some-append (whole_text n) _ (whole_some n)) (words-append (whole_text n) _ (words_of_digits (whole_text n) (whole_digits n)) (under below))

-- ---- names of letters past ASCII

skip_past : (bs more : List ℕ) → Continues (length bs) (bs ++ more) → Continues 0 more
skip_past [] more h = h
skip_past (b ∷ bs) more h = skip_past bs more h

all_end : (cs : List ℕ) → all_scalars cs ≡ true → Continues 0 (encode_utf8_all cs) → AllPass ends_name cs
all_end [] s h = tt
all_end (c ∷ cs) s h =
    let p = and_parts (scalar c) (all_scalars cs) s in
    let k = is_char c p.0 in
    let bytes : encode_utf8 c ++ encode_utf8_all cs ≡ k.first ∷ (k.others ++ encode_utf8_all cs) = ap (λ xs. xs ++ encode_utf8_all cs) k.bytes in
    let g : Continues 0 (k.first ∷ (k.others ++ encode_utf8_all cs)) = subst (Continues 0) bytes h in
    let first : first_char (k.first ∷ (k.others ++ encode_utf8_all cs)) ≡ Some c = first_char-append k.first k.others (encode_utf8_all cs) (omega (arith, k.size)) ∙ k.char in
    let goes : continues_name c ≡ true = ap (passes continues_name) (sym first) ∙ g.0 in
    let rest : Continues (length k.others) (k.others ++ encode_utf8_all cs) = subst (λ n. Continues n (k.others ++ encode_utf8_all cs)) (sym k.size) g.2 in
    (ap (λ x. starts_name c || x) goes ∙ or_right (starts_name c) true refl, all_end cs p.1 (skip_past k.others (encode_utf8_all cs) rest))

-- a name of letters: the first character starts it
letters_end : (cs : List ℕ) (b : ℕ) (bs : List ℕ) → all_scalars cs ≡ true → encode_utf8_all cs ≡ b ∷ bs → passes starts_name (first_char (b ∷ bs)) ≡ true → Continues (continuation_len b) bs → IsSome cs × AllPass ends_name cs
letters_end [] b bs s e starts h = cc
letters_end (c ∷ cs) b bs s e starts h =
    let p = and_parts (scalar c) (all_scalars cs) s in
    let k = is_char c p.0 in
    let bytes : k.first ∷ (k.others ++ encode_utf8_all cs) ≡ b ∷ bs = sym (ap (λ xs. xs ++ encode_utf8_all cs) k.bytes) ∙ e in
    let lead : k.first ≡ b = cc in
    let tail : k.others ++ encode_utf8_all cs ≡ bs = cc in
    let first : first_char (b ∷ bs) ≡ Some c = ap first_char (sym bytes) ∙ first_char-append k.first k.others (encode_utf8_all cs) (omega (arith, k.size)) ∙ k.char in
    let begin : starts_name c ≡ true = ap (passes starts_name) (sym first) ∙ starts in
    let size : continuation_len b ≡ length k.others = ap continuation_len (sym lead) ∙ sym k.size in
    let rest : Continues (length k.others) (k.others ++ encode_utf8_all cs) = subst (λ xs. Continues (length k.others) xs) (sym tail) (subst (λ n. Continues n bs) size h) in
    (tt, (or_left (starts_name c) (continues_name c) begin, all_end cs p.1 (skip_past k.others (encode_utf8_all cs) rest)))

-- the last character of a name of letters ends it
pub letters_last : (f : Text) → is_utf8 f ≡ true → needs_quotes f ≡ false → passes starts_name (first_char f) ≡ true → passes ends_name (last_of (chars f)) ≡ true
letters_last [] valid bare starts = absurd (some_bare bare)
letters_last (b ∷ bs) valid bare starts = by (bare_kind b bs bare)
  where
    by : BareKind b bs → passes ends_name (last_of (chars (b ∷ bs))) ≡ true
    by (Letters begin size continues) =
        let u = IsUtf8-from_is_utf8 (b ∷ bs) valid in
        let p = letters_end (chars (b ∷ bs)) b bs (scalars-chars (b ∷ bs) u) (encodes-chars (b ∷ bs) u) begin continues in
        last_passes ends_name (chars (b ∷ bs)) p.0 p.1
    by (Symbols all no_stop) = absurd (false≢true (sym (symbol_starts_none b all.0) ∙ ap (passes starts_name) (sym (first_char-ascii b bs (symbol_small b all.0))) ∙ starts))
    by (Sign sign alone) =
        let low : b < 128 = grind (arith, nat_tests) in
        let none : starts_name b ≡ false = grind (arith, nat_tests) in
        absurd (false≢true (sym none ∙ ap (passes starts_name) (sym (first_char-ascii b bs low)) ∙ starts))

-- the last character of a name of symbol characters is one
pub symbols_last : (f : Text) → needs_quotes f ≡ false → begins is_symbol f ≡ true → passes is_symbol (last_of (chars f)) ≡ true
symbols_last [] bare symbol = cc
symbols_last (b ∷ bs) bare symbol = by (bare_kind b bs bare)
  where
    by : BareKind b bs → passes is_symbol (last_of (chars (b ∷ bs))) ≡ true
    by (Symbols all no_stop) = last_ascii is_symbol symbol_small (b ∷ bs) tt all
    by (Letters begin size continues) = absurd (false≢true (sym (symbol_starts_none b symbol) ∙ ap (passes starts_name) (sym (first_char-ascii b bs (symbol_small b symbol))) ∙ begin))
    by (Sign sign alone) = let none : is_symbol b ≡ false = grind (arith, nat_tests) in absurd (false≢true (sym none ∙ symbol))

-- a text that begins with a symbol character has it as its first character
pub no_symbol_first : (w : Text) → passes is_symbol (first_char w) ≡ false → begins is_symbol w ≡ false
no_symbol_first [] e = refl
no_symbol_first (b ∷ bs) e = false_from_ne_true (is_symbol b) (λ symbol. false≢true (sym e ∙ ap (passes is_symbol) (first_char-ascii b bs (symbol_small b symbol)) ∙ symbol))
