-- How many bytes a numeral has.
use Rattle.std.proofs.Common.{◌≡◌, ℕ, ◌+◌, ◌-◌, ◌≤◌, Bool, true, false, List, [], ◌∷◌, drop, length, length-drop, Option, Some, None, Result, Ok, Err, refl, subst, arith}
use Rattle.std.specs.Prelude.{◌==◌, if◌then◌else◌}
use Rattle.std.specs.Char.{is_digit, is_ascii_digit}
use Rattle.std.specs.Str.{continuation_len}
use Rattle.std.proofs.lemmas.Bool.Decides.{nat_tests}
use Rattle.spec_syntax.specs.declared.grammar.Escape.{Escape}
use Rattle.spec_syntax.specs.declared.grammar.LexFault.{LexFault}
use Rattle.spec_syntax.specs.Characters.{begins_with, first_char}
use Rattle.spec_syntax.specs.Quotes.{digits_len, digits_value, escape}
use Rattle.spec_syntax.specs.Numerals.{Spelling, whole, based, escaped, character, marked, goes_on_as_fraction, fraction, plain, spelling_or, spelling}
use Rattle.spec_syntax.proofs.Characters.{whole_char}
use Rattle.spec_syntax.proofs.Bounds.{EscapeWithin, escape_within, prefix_within}

-- a spelling of a byte or more, within so many
abbrev pub Sized : ℕ → Spelling → Type 0
Sized n s = (1 ≤ s.size) × (s.size ≤ n)

abbrev MaySize : ℕ → Option Spelling → Type 0
MaySize n None = Unit {0}
MaySize n (Some s) = Sized n s

module _ (n : ℕ) where
  if_sized : (b : Bool) (x y : Option Spelling) → MaySize n x → MaySize n y → MaySize n (if b then x else y)
  if_sized true x y h k = h
  if_sized false x y h k = k

based_sized : (base : ℕ) (bs : List ℕ) → MaySize (2 + length bs) (based base bs)
based_sized base bs = if_sized (2 + length bs) (digits_len base bs == 0) _ _ tt (omega arith, omega (arith, prefix_within (λ b. is_digit b base) bs))

escaped_sized : (bs : List ℕ) → MaySize (3 + length bs) (escaped (escape bs 1))
escaped_sized bs = by (escape bs 1) (escape_within bs 1 (omega arith))
  where
    by : (r : Result Escape LexFault) → EscapeWithin (length bs) (1 - 1) (1 + length bs) r → MaySize (3 + length bs) (escaped r)
    by (Err f) w = tt
    by (Ok e) w = stands e.stands_for
      where
        stands : (c : Option ℕ) → MaySize (3 + length bs) (elim c [ None ↦ None | Some c ↦ Some (whole c (3 + e.size)) ])
        stands None = tt
        stands (Some c) = (omega arith, omega (arith, w))

character_sized : (bs : List ℕ) → MaySize (2 + length bs) (character bs)
character_sized [] = tt
character_sized (b ∷ bs) =
    if_sized (2 + length (b ∷ bs)) (b == 39) _ _ (doubled bs)
    (if_sized (2 + length (b ∷ bs)) (b == 92) _ _ (subst (λ n. MaySize n (escaped (escape bs 1))) same (escaped_sized bs))
    (if_sized (2 + length (b ∷ bs)) (b == 10) _ _ tt (single (first_char (b ∷ bs)) refl)))
  where
    same : 3 + length bs ≡ 2 + length (b ∷ bs)
    same = omega arith

    doubled : (cs : List ℕ) → MaySize (2 + length (b ∷ cs)) (if begins_with 39 cs then Some (whole 39 4) else None)
    doubled [] = tt
    doubled (c ∷ cs) = if_sized (2 + length (b ∷ c ∷ cs)) (c == 39) _ _ (omega arith, omega arith) tt

    single : (c : Option ℕ) → first_char (b ∷ bs) ≡ c → MaySize (2 + length (b ∷ bs)) (elim c [ None ↦ None | Some c ↦ Some (whole c (3 + continuation_len b)) ])
    single None e = tt
    single (Some c) e = let fits = whole_char b bs c e in (omega arith, omega (arith, fits))

marked_sized : (bs : List ℕ) → MaySize (1 + length bs) (marked bs)
marked_sized [] = tt
marked_sized (b ∷ bs) =
    if_sized (1 + length (b ∷ bs)) (b == 120) _ _ (grown (based 16 bs) (based_sized 16 bs))
    (if_sized (1 + length (b ∷ bs)) (b == 111) _ _ (grown (based 8 bs) (based_sized 8 bs))
    (if_sized (1 + length (b ∷ bs)) (b == 98) _ _ (grown (based 2 bs) (based_sized 2 bs))
    (if_sized (1 + length (b ∷ bs)) (b == 39) _ _ (grown (character bs) (character_sized bs)) tt)))
  where
    same : 2 + length bs ≡ 1 + length (b ∷ bs)
    same = omega arith

    grown : (o : Option Spelling) → MaySize (2 + length bs) o → MaySize (1 + length (b ∷ bs)) o
    grown o h = subst (λ n. MaySize n o) same h

fraction_sized : (n len : ℕ) (bs : List ℕ) → 1 ≤ len → Sized (len + length bs) (fraction n len bs)
fraction_sized n len [] h = (h, omega arith)
fraction_sized n len (b ∷ bs) h = by (goes_on_as_fraction (b ∷ bs))
  where
    by : (goes_on : Bool) → Sized (len + length (b ∷ bs)) (if goes_on then record { over = n; under = digits_value 10 bs; size = len + 1 + digits_len 10 bs } else whole n len)
    by true = (omega arith, omega (arith, prefix_within (λ c. is_digit c 10) bs))
    by false = (h, omega arith)

plain_sized : (bs : List ℕ) → 1 ≤ digits_len 10 bs → Sized (length bs) (plain bs)
plain_sized bs h =
    let fits : digits_len 10 bs ≤ length bs = prefix_within (λ b. is_digit b 10) bs in
    let same : digits_len 10 bs + length (drop (digits_len 10 bs) bs) ≡ length bs = omega (arith, fits, length-drop (digits_len 10 bs) bs) in
    subst (λ n. Sized n (plain bs)) same (fraction_sized (digits_value 10 bs) (digits_len 10 bs) (drop (digits_len 10 bs) bs) h)

decimal : (b : ℕ) → is_ascii_digit b ≡ true → is_digit b 10 ≡ true
decimal b e = grind (arith, nat_tests)

-- a numeral takes its first digit, and ends within the text
pub spelling_sized : (b : ℕ) (bs : List ℕ) → is_ascii_digit b ≡ true → Sized (length (b ∷ bs)) (spelling (b ∷ bs))
spelling_sized b bs e = by (b == 48)
  where
    some_digit : 1 ≤ digits_len 10 (b ∷ bs)
    some_digit = rw (decimal b e) (omega arith)

    here : Sized (length (b ∷ bs)) (plain (b ∷ bs))
    here = plain_sized (b ∷ bs) some_digit

    same : 1 + length bs ≡ length (b ∷ bs)
    same = omega arith

    or : (o : Option Spelling) → MaySize (1 + length bs) o → Sized (length (b ∷ bs)) (spelling_or o (plain (b ∷ bs)))
    or None h = here
    or (Some s) h = (h.0, omega (arith, h.1))

    by : (zero : Bool) → Sized (length (b ∷ bs)) (if zero then spelling_or (marked bs) (plain (b ∷ bs)) else plain (b ∷ bs))
    by true = or (marked bs) (marked_sized bs)
    by false = here
