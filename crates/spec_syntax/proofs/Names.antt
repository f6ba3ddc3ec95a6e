-- The bytes of names and variables are UTF-8.
use Rattle.std.proofs.Common.{◌≡◌, ℕ, zero, suc, ◌+◌, ◌-◌, ◌<◌, ◌≤◌, Bool, true, false, cond, List, [], ◌∷◌, take, drop, length, nat_lt, slice_get, Option, Some, None, Result, Ok, Err, ◌⊎◌, inl, inr, refl, sym, ap, subst, ◌∙◌, arith}
use Rattle.std.specs.Prelude.{◌==◌, ◌||◌, if◌then◌else◌}
use Rattle.std.specs.Char.{is_ascii_digit}
use Rattle.std.specs.List.{prefix_len}
use Rattle.std.specs.Str.{IsUtf8, IsAscii, is_utf8, chars, continuation_len}
use Rattle.std.proofs.lemmas.Bool.Decides.{nat_tests}
use Rattle.std.proofs.Math.Seq.{take-add}
use Rattle.std.proofs.lemmas.Str.{IsUtf8-nil, IsUtf8-append, IsUtf8-from_is_utf8, IsUtf8-from_ascii}
use Rattle.spec_syntax.specs.declared.grammar.Kind.{Kind}
use Rattle.spec_syntax.specs.declared.grammar.Kind.TheVariants.{Name, Quoted, Codes, Variable, Numeral, Punctuation, End, Eof}
use Rattle.spec_syntax.specs.declared.grammar.Gap.TheVariants.{Between}
use Rattle.spec_syntax.specs.declared.grammar.LexFault.{LexFault}
use Rattle.spec_syntax.specs.Characters.{is_symbol, is_punctuation, first_char, passes, continues_name, starts_name, starts_variable, name_end}
use Rattle.spec_syntax.specs.Gaps.{gap}
use Rattle.spec_syntax.specs.Quotes.{Quoted as InQuotes}
use Rattle.spec_syntax.specs.Numerals.{Spelling, spelling, is_wide, goes_on_as_float}
use Rattle.spec_syntax.specs.GrammarTokens.{Token, token, in_quotes, numeral, token_at, token_behind, next_token, bytes_of}
use Rattle.spec_syntax.proofs.Characters.{whole_char}
use Rattle.spec_syntax.proofs.Tiles.{BeginsAt, token_begins}

-- one byte of ASCII
ascii : (b : ℕ) → b < 128 → IsUtf8 (b ∷ [])
ascii b h = IsUtf8-from_ascii (b ∷ []) each
  where
    each : IsAscii (b ∷ [])
    each zero = h
    each (suc i) = omega arith

passed : (test : ℕ → Bool) (o : Option ℕ) → passes test o ≡ true → (c : ℕ) × (o ≡ Some c)
passed test None e = absurd (cc)
passed test (Some c) e = (c, refl)

take_none : (xs : List ℕ) → take 0 xs ≡ []
take_none [] = refl
take_none (x ∷ xs) = refl

one_more : (n b : ℕ) (bs : List ℕ) → take (1 + n) (b ∷ bs) ≡ b ∷ take n bs
one_more n b bs = let same : 1 + n ≡ suc n = omega arith in ap (λ m. take m (b ∷ bs)) same

-- a first character is UTF-8 where it stands
char_utf8 : (b : ℕ) (bs : List ℕ) (c : ℕ) → first_char (b ∷ bs) ≡ Some c → IsUtf8 (b ∷ take (continuation_len b) bs)
unfolding first_char
char_utf8 b bs c e = by (nat_lt b 128) (is_utf8 (b ∷ take (continuation_len b) bs)) refl refl e
  where
    by : (small utf8 : Bool) → nat_lt b 128 ≡ small → is_utf8 (b ∷ take (continuation_len b) bs) ≡ utf8 →
        (if small then Some b else if utf8 then slice_get (chars (b ∷ take (continuation_len b) bs)) 0 else None) ≡ Some c → IsUtf8 (b ∷ take (continuation_len b) bs)
    by true utf8 s u e =
        let none : continuation_len b ≡ 0 = rw s refl in
        rw (none, take_none bs) (ascii b (grind (arith, nat_tests)))
    by false true s u e = IsUtf8-from_is_utf8 (b ∷ take (continuation_len b) bs) u
    by false false s u e = absurd (cc)

-- the characters of a name are UTF-8
abbrev NameStands : ℕ → List ℕ → ℕ → Type 0
NameStands skip bs at = (n : ℕ) × (name_end skip bs at ≡ at + skip + n) × IsUtf8 (take n (drop skip bs))

name_none : (bs : List ℕ) (at : ℕ) → name_end 0 bs at ≡ at → NameStands 0 bs at
name_none bs at e = (0, omega (arith, e), IsUtf8-nil)

name_one : (b : ℕ) (bs : List ℕ) (at : ℕ) → IsUtf8 (b ∷ take (continuation_len b) bs) → NameStands (continuation_len b) bs (at + 1) → name_end 0 (b ∷ bs) at ≡ name_end (continuation_len b) bs (at + 1) →
    NameStands 0 (b ∷ bs) at
name_one b bs at char (n, e, u) same =
    let len = continuation_len b in (
      suc (len + n),
      omega (arith, same, e),
      subst IsUtf8 (ap (λ xs. b ∷ xs) (sym (take-add len n bs))) (IsUtf8-append (b ∷ take len bs) (take n (drop len bs)) char u),
    )

name_utf8 : (skip : ℕ) (bs : List ℕ) (at : ℕ) → skip ≤ length bs → NameStands skip bs at
name_utf8 zero [] at fits = name_none [] at refl
name_utf8 (suc skip) [] at fits = absurd (omega arith)
name_utf8 (suc skip) (b ∷ bs) at fits = let (n, e, u) = name_utf8 skip bs (at + 1) (omega arith) in (n, omega (arith, e), u)
name_utf8 zero (b ∷ bs) at fits = by (passes continues_name (first_char (b ∷ bs))) refl (λ fits. name_utf8 (continuation_len b) bs (at + 1) fits)
  where
    by : (more : Bool) → passes continues_name (first_char (b ∷ bs)) ≡ more → (continuation_len b ≤ length bs → NameStands (continuation_len b) bs (at + 1)) → NameStands 0 (b ∷ bs) at
    by true e later =
        let (c, is) = passed continues_name (first_char (b ∷ bs)) e in
        name_one b bs at (char_utf8 b bs c is) (later (whole_char b bs c is)) (rw e refl)
    by false e later = name_none (b ∷ bs) at (rw e refl)

symbols_utf8 : (bs : List ℕ) → IsUtf8 (take (prefix_len is_symbol bs) bs)
symbols_utf8 [] = IsUtf8-nil
symbols_utf8 (b ∷ bs) = by (is_symbol b) refl (symbols_utf8 bs)
  where
    by : (more : Bool) → is_symbol b ≡ more → IsUtf8 (take (prefix_len is_symbol bs) bs) → IsUtf8 (take (cond more (1 + prefix_len is_symbol bs) 0) (b ∷ bs))
    by true e later =
        let small : b < 128 = grind (arith, nat_tests) in
        rw (one_more (prefix_len is_symbol bs) b bs) (IsUtf8-append (b ∷ []) (take (prefix_len is_symbol bs) bs) (ascii b small) later)
    by false e later = IsUtf8-nil

-- ---- tokens

-- a name or a variable
abbrev pub IsWord : Kind → Type 0
IsWord kind = (kind ≡ Name) ⊎ (kind ≡ Variable)

abbrev WordStands : List ℕ → Result Token LexFault → Type 0
WordStands bs (Err f) = Unit {0}
WordStands bs (Ok t) = IsWord t.kind → IsUtf8 (take (t.span.end - t.span.start) bs)

choice : (bs : List ℕ) (b : Bool) (x y : Result Token LexFault) → (b ≡ true → WordStands bs x) → WordStands bs y → WordStands bs (if b then x else y)
choice bs true x y h k = h refl
choice bs false x y h k = k

other : (bs : List ℕ) (at end : ℕ) (kind : Kind) → (IsWord kind → ⊥) → WordStands bs (Ok (token kind at end))
other bs at end kind apart w = absurd (apart w)

word : (bs : List ℕ) (at n end : ℕ) (kind : Kind) → end ≡ at + n → IsUtf8 (take n bs) → WordStands bs (Ok (token kind at end))
word bs at n end kind e u w = let size : end - at ≡ n = omega (arith, e) in rw size u

symbols_word : (bs : List ℕ) (at : ℕ) (end : Bool) → WordStands bs (Ok (token (if end then End else Name) at (at + prefix_len is_symbol bs)))
symbols_word bs at end = word bs at (prefix_len is_symbol bs) (at + prefix_len is_symbol bs) (if end then End else Name) refl (symbols_utf8 bs)

quotes_word : (bs : List ℕ) (at : ℕ) (kind : Kind) (q : Result InQuotes LexFault) → (IsWord kind → ⊥) → WordStands bs (in_quotes kind at q)
quotes_word bs at kind (Ok held) apart = other bs at held.stop kind apart
quotes_word bs at kind (Err f) apart = tt

no_word : {kind : Kind} → (kind ≡ Name → ⊥) → (kind ≡ Variable → ⊥) → IsWord kind → ⊥
no_word n v (inl e) = n e
no_word n v (inr e) = v e

number_word : (s : Spelling) (bs : List ℕ) (at : ℕ) → WordStands bs (numeral s bs at)
number_word s bs at = choice bs (is_wide s) _ _ (λ e. tt) (choice bs (goes_on_as_float (drop s.size bs)) _ _ (λ e. tt) (λ w. absurd (no_word {kind = Numeral} (λ e. cc) (λ e. cc) w)))

-- a name of letters, or a variable
long_word : (b : ℕ) (bs : List ℕ) (at skip : ℕ) (kind : Kind) → skip ≤ length bs → IsUtf8 (b ∷ take skip bs) → WordStands (b ∷ bs) (Ok (token kind at (name_end skip bs (at + 1))))
long_word b bs at skip kind fits char =
    let (n, e, u) = name_utf8 skip bs (at + 1) fits in
    word (b ∷ bs) at (suc (skip + n)) (name_end skip bs (at + 1)) kind (omega (arith, e)) (subst IsUtf8 (ap (λ xs. b ∷ xs) (sym (take-add skip n bs))) (IsUtf8-append (b ∷ take skip bs) (take n (drop skip bs)) char u))

name_word : (b : ℕ) (bs : List ℕ) (at : ℕ) → passes starts_name (first_char (b ∷ bs)) ≡ true → WordStands (b ∷ bs) (Ok (token Name at (name_end (continuation_len b) bs (at + 1))))
name_word b bs at e =
    let (c, is) = passed starts_name (first_char (b ∷ bs)) e in
    long_word b bs at (continuation_len b) Name (whole_char b bs c is) (char_utf8 b bs c is)

token_word : (bs : List ℕ) (at : ℕ) → WordStands bs (token_at bs at)
token_word [] at = other [] at at Eof (no_word (λ e. cc) (λ e. cc))
token_word (b ∷ bs) at =
    choice (b ∷ bs) (passes starts_name (first_char (b ∷ bs))) _ _ (λ e. name_word b bs at e)
    (choice (b ∷ bs) (starts_variable b) _ _ (λ e. let small : b < 128 = grind (arith, nat_tests) in long_word b bs at 0 Variable (omega arith) (ascii b small))
    (choice (b ∷ bs) (is_symbol b) _ _ (λ e. symbols_word (b ∷ bs) at _)
    (choice (b ∷ bs) ((b == 33) || (b == 59)) _ _ (λ e. let small : b < 128 = grind (arith, nat_tests) in word (b ∷ bs) at 1 (at + 1) Name refl (ascii b small))
    (choice (b ∷ bs) (is_punctuation b) _ _ (λ e. other (b ∷ bs) at _ Punctuation (no_word (λ e. cc) (λ e. cc)))
    (choice (b ∷ bs) (b == 39) _ _ (λ e. quotes_word (b ∷ bs) at Quoted _ (no_word (λ e. cc) (λ e. cc)))
    (choice (b ∷ bs) (b == 34) _ _ (λ e. quotes_word (b ∷ bs) at Codes _ (no_word (λ e. cc) (λ e. cc)))
    (choice (b ∷ bs) (is_ascii_digit b) _ _ (λ e. number_word (spelling (b ∷ bs)) (b ∷ bs) at) tt)))))))

-- a name or a variable that comes next is UTF-8
pub word_utf8 : (text : List ℕ) (at : ℕ) (t : Token) → next_token text at ≡ Ok t → IsWord t.kind → IsUtf8 (bytes_of text t.span)
word_utf8 text at t e w = by (gap Between (drop at text) at) e
  where
    here : (start : ℕ) (r : Result Token LexFault) → r ≡ Ok t → BeginsAt (length (drop start text)) start r → WordStands (drop start text) r → IsUtf8 (bytes_of text t.span)
    here start (Err f) e begins means = absurd (cc)
    here start (Ok u) e begins means =
        let same : u ≡ t = cc in
        let place : start ≡ t.span.start = sym begins.begins ∙ ap (λ (x : Token). x.span.start) same in
        subst (λ n. IsUtf8 (take (t.span.end - t.span.start) (drop n text))) place (subst (λ x. WordStands (drop start text) (Ok x)) same means w)

    by : (r : Result ℕ LexFault) → token_behind text r ≡ Ok t → IsUtf8 (bytes_of text t.span)
    by (Err f) e = absurd (cc)
    by (Ok start) e = here start (token_at (drop start text) start) e (token_begins (drop start text) start) (token_word (drop start text) start)
