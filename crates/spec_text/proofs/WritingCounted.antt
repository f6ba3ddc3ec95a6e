-- The names `_1`, `_2` and so on are cut, and are known again by their numbers.
use Rattle.std.proofs.Common.{◌≡◌, ℕ, zero, suc, ◌+◌, ◌<◌, ◌≤◌, Bool, true, false, List, [], ◌∷◌, ◌++◌, codes, length, Some, None, Ok, refl, sym, ap, subst, ◌∙◌, arith}
use Rattle.std.specs.Prelude.{◌==◌, if◌then◌else◌, bytes_eq}
use Rattle.std.specs.Char.{is_digit}
use Rattle.std.specs.Str.{continuation_len}
use Rattle.std.specs.Cmp.Lexicographic.{bytes_decides}
use Rattle.std.proofs.lemmas.Bool.Decides.{nat_tests}
use Rattle.spec_syntax.specs.declared.grammar.Kind.TheVariants as kind
use Rattle.spec_syntax.specs.Characters.{first_char, passes, continues_name}
use Rattle.spec_syntax.specs.Quotes.{digits_value}
use Rattle.spec_syntax.specs.GrammarTokens.{token, token_at}
use Rattle.spec_syntax.specs.Laws.{AllPass, Continues}
use Rattle.spec_syntax.proofs.Again.{first_char-ascii, variable_again}
use Rattle.spec_syntax.specs.TextTokens.{number_of, known, with_name}
use Rattle.spec_text.specs.Numbers.{whole_text}
use Rattle.spec_text.specs.Written.{counted_name}
use Rattle.spec_text.specs.ReadingBack.{counted_names, counted}
use Rattle.spec_text.proofs.WritingNames.{stops_there}
use Rattle.spec_text.proofs.Wholes.{IsSome, whole_some, whole_digits, whole_value}

pub digit_continues : (b : ℕ) → is_digit b 10 ≡ true → (continues_name b ≡ true) × (b < 128) × (continuation_len b ≡ 0)
digit_continues b h =
    let lo : b < 58 = grind (arith, nat_tests) in
    let hi : 48 ≤ b = grind (arith, nat_tests) in
    let small : b < 128 = omega (arith, lo) in
    (let z : continues_name b ≡ true = grind (arith, nat_tests) in z, small, let z : continuation_len b ≡ 0 = grind (arith, nat_tests) in z)

digits_continue : (bs : List ℕ) → AllPass (λ b. is_digit b 10) bs → Continues 0 bs
digits_continue [] h = tt
digits_continue (b ∷ bs) h =
    let d = digit_continues b h.0 in
    (ap (passes continues_name) (first_char-ascii b bs d.1) ∙ d.0, rw d.2 (omega arith), subst (λ k. Continues k bs) (sym d.2) (digits_continue bs h.1))

pub variable_cut : (v : ℕ) (more : List ℕ) (at : ℕ) → passes continues_name (first_char more) ≡ false → token_at (counted_name v ++ more) at ≡ Ok (token kind.Variable at (at + length (counted_name v)))
variable_cut v more at stops = variable_again 95 (whole_text (1 + v)) more at refl (digits_continue (whole_text (1 + v)) (whole_digits (1 + v))) (stops_there more _ stops)

-- a number by its name
abbrev tail_of : List ℕ → List ℕ
tail_of [] = []
tail_of (b ∷ bs) = bs

pub name_tells : (v w : ℕ) → counted_name v ≡ counted_name w → v ≡ w
name_tells v w e =
    let t : whole_text (1 + v) ≡ whole_text (1 + w) = ap tail_of e in
    let n : 1 + v ≡ 1 + w = sym (whole_value (1 + v)) ∙ ap (digits_value 10) t ∙ whole_value (1 + w) in
    omega (arith, n)

pub known_again : (n k v : ℕ) → n ≤ v → v < n + k → number_of (counted_names n k) (counted_name v) ≡ Some v
known_again n zero v h g = absurd (omega arith)
known_again n (suc k) v h g = by (bytes_eq (counted_name v) (counted_name n)) refl (λ x. known_again (suc n) k v x (omega arith))
  where
    by : (b : Bool) → bytes_eq (counted_name v) (counted_name n) ≡ b → (suc n ≤ v → number_of (counted_names (suc n) k) (counted_name v) ≡ Some v) →
        (if b then Some n else number_of (counted_names (suc n) k) (counted_name v)) ≡ Some v
    by true e r = ap Some (sym (name_tells v n ((bytes_decides (counted_name v) (counted_name n)).0 e)))
    by false e r = on (n == v) refl
      where
        on : (x : Bool) → (n == v) ≡ x → number_of (counted_names (suc n) k) (counted_name v) ≡ Some v
        on false x = let d : (n ≡ v → ⊥) = (λ s. grind (arith, nat_tests)) in r (omega (arith, h, d))
        on true x = let s : n ≡ v = grind (arith, nat_tests) in let z : true ≡ false = sym ((bytes_decides (counted_name v) (counted_name n)).1 (ap counted_name (sym s))) ∙ e in cc

-- ---- the names in turn

-- one name more
counted-more : (n k : ℕ) → counted_names n (suc k) ≡ counted_names n k ++ record { name = counted_name (n + k); number = n + k } ∷ []
counted-more n zero = let e : n ≡ n + 0 = omega arith in ap (λ m. record { name = counted_name m; number = m } ∷ []) e
counted-more n (suc k) =
    let e : suc n + k ≡ n + suc k = omega arith in
    ap (λ names. record { name = counted_name n; number = n } ∷ names) (counted-more (suc n) k ∙ ap (λ m. counted_names (suc n) k ++ record { name = counted_name m; number = m } ∷ []) e)

-- no name before it is the next one's
next_unknown : (n k v : ℕ) → n + k ≤ v → number_of (counted_names n k) (counted_name v) ≡ None
next_unknown n zero v h = refl
next_unknown n (suc k) v h = by (bytes_eq (counted_name v) (counted_name n)) refl (next_unknown (suc n) k v (omega arith))
  where
    by : (b : Bool) → bytes_eq (counted_name v) (counted_name n) ≡ b → number_of (counted_names (suc n) k) (counted_name v) ≡ None →
        (if b then Some n else number_of (counted_names (suc n) k) (counted_name v)) ≡ None
    by true e r = let s : v ≡ n = name_tells v n ((bytes_decides (counted_name v) (counted_name n)).0 e) in absurd (omega (arith, s, h))
    by false e r = r

no_bare : (v : ℕ) → bytes_eq (counted_name v) (codes "_") ≡ false
no_bare v = by (bytes_eq (counted_name v) (codes "_")) refl
  where
    empty : (w : List ℕ) → IsSome w → 95 ∷ w ≡ 95 ∷ [] → ⊥
    empty [] some e = elim some [ ]
    empty (b ∷ bs) some e = let h : b ∷ bs ≡ [] = ap tail_of e in cc

    by : (b : Bool) → bytes_eq (counted_name v) (codes "_") ≡ b → b ≡ false
    by false e = refl
    by true e = absurd (empty (whole_text (1 + v)) (whole_some (1 + v)) ((bytes_decides (counted_name v) (codes "_")).0 e))

-- a variable that was written is known by its name
pub known_number : (k v : ℕ) → v < k → known (counted k) (counted_name v) ≡ Some v
known_number k v h = rw (no_bare v) (known_again 0 k v (omega arith) (omega arith))

-- the next is not
pub unknown_number : (k : ℕ) → known (counted k) (counted_name k) ≡ None
unknown_number k = rw (no_bare k) (next_unknown 0 k k (omega arith))

-- the variables with the next
pub counted_next : (k : ℕ) → with_name (counted k) (counted_name k) ≡ counted_names 0 (suc k)
counted_next k =
    let e : 0 + k ≡ k = omega arith in
    rw (no_bare k) (sym (counted-more 0 k ∙ ap (λ m. counted_names 0 k ++ record { name = counted_name m; number = m } ∷ []) e))
