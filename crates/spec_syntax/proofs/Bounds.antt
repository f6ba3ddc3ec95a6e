-- Tokens and faults stand within the text, and a token takes a byte.
use Rattle.std.proofs.Common.{◌≡◌, ℕ, zero, suc, ◌+◌, ◌-◌, ◌≤◌, Bool, true, false, cond, List, [], ◌∷◌, drop, length, length-drop, Option, Some, None, Result, Ok, Err, refl, sym, ap, subst, arith, zero-add}
use Rattle.std.specs.Prelude.{◌==◌, ◌||◌, ◌&&◌, if◌then◌else◌, nat_lt}
use Rattle.std.specs.Char.{is_digit}
use Rattle.std.specs.Str.{continuation_len}
use Rattle.std.specs.List.{prefix_len}
use Rattle.spec_syntax.specs.declared.grammar.Escape.{Escape}
use Rattle.spec_syntax.specs.declared.grammar.Gap.{Gap}
use Rattle.spec_syntax.specs.declared.grammar.Gap.TheVariants.{Between, Line, Opening, Block, Closing}
use Rattle.spec_syntax.specs.declared.grammar.LexFault.{LexFault}
use Rattle.spec_syntax.specs.declared.grammar.LexFault.TheVariants.{BadByte}
use Rattle.spec_syntax.specs.Characters.{is_layout, begins_with, first_char, passes, continues_name, name_end}
use Rattle.spec_syntax.specs.Gaps.{place, gap}
use Rattle.spec_syntax.specs.Quotes.{digits_len, digits_value, is_scalar, closing, numbered, letter, escape_at, escape, Quoted, quoted, in_front, ends}

-- where something ends, or the place of its fault, is from here to there
abbrev pub Within : ℕ → ℕ → Result ℕ LexFault → Type 0
Within lo hi (Ok end) = (lo ≤ end) × (end ≤ hi)
Within lo hi (Err f) = (lo ≤ place f) × (place f ≤ hi)

wider : (lo lo' hi hi' : ℕ) (r : Result ℕ LexFault) → lo ≤ lo' → hi' ≤ hi → Within lo' hi' r → Within lo hi r
wider lo lo' hi hi' (Ok end) h k w = (omega (arith, w.0), omega (arith, w.1))
wider lo lo' hi hi' (Err f) h k w = (omega (arith, w.0), omega (arith, w.1))

module _ (lo hi : ℕ) where
  if_within : (b : Bool) (x y : Result ℕ LexFault) → Within lo hi x → Within lo hi y → Within lo hi (if b then x else y)
  if_within true x y h k = h
  if_within false x y h k = k

pub gap_within : (mode : Gap) (bs : List ℕ) (at : ℕ) → Within at (at + length bs) (gap mode bs at)
gap_within Between [] at = (omega arith, omega arith)
gap_within Between (b ∷ bs) at =
    if_within at (at + length (b ∷ bs)) (is_layout b) _ _ (wider _ _ _ _ _ (omega arith) (omega arith) (gap_within Between bs (at + 1)))
    (if_within at (at + length (b ∷ bs)) (b == 37) _ _ (wider _ _ _ _ _ (omega arith) (omega arith) (gap_within Line bs (at + 1)))
    (if_within at (at + length (b ∷ bs)) ((b == 47) && begins_with 42 bs) _ _ (wider _ _ _ _ _ (omega arith) (omega arith) (gap_within Opening bs (at + 1))) (omega arith, omega arith)))
gap_within Line [] at = (omega arith, omega arith)
gap_within Line (b ∷ bs) at =
    if_within at (at + length (b ∷ bs)) (b == 10) _ _ (wider _ _ _ _ _ (omega arith) (omega arith) (gap_within Between bs (at + 1)))
    (wider _ _ _ _ _ (omega arith) (omega arith) (gap_within Line bs (at + 1)))
gap_within Opening [] at = (omega arith, omega arith)
gap_within Opening (b ∷ bs) at = wider _ _ _ _ _ (omega arith) (omega arith) (gap_within Block bs (at + 1))
gap_within Block [] at = (omega arith, omega arith)
gap_within Block (b ∷ bs) at =
    if_within at (at + length (b ∷ bs)) ((b == 42) && begins_with 47 bs) _ _ (wider _ _ _ _ _ (omega arith) (omega arith) (gap_within Closing bs (at + 1)))
    (wider _ _ _ _ _ (omega arith) (omega arith) (gap_within Block bs (at + 1)))
gap_within Closing [] at = (omega arith, omega arith)
gap_within Closing (b ∷ bs) at = wider _ _ _ _ _ (omega arith) (omega arith) (gap_within Between bs (at + 1))

between : (lo hi : ℕ) (b : Bool) (x y : ℕ) → (lo ≤ x) × (x ≤ hi) → (lo ≤ y) × (y ≤ hi) → (lo ≤ cond b x y) × (cond b x y ≤ hi)
between lo hi true x y h k = h
between lo hi false x y h k = k

pub name_within : (skip : ℕ) (bs : List ℕ) (at : ℕ) → (at ≤ name_end skip bs at) × (name_end skip bs at ≤ at + length bs)
name_within zero [] at = (omega arith, omega arith)
name_within (suc skip) [] at = (omega arith, omega arith)
name_within zero (b ∷ bs) at =
    let rest = name_within (continuation_len b) bs (at + 1) in
    between at (at + length (b ∷ bs)) (passes continues_name (first_char (b ∷ bs))) _ _ (omega (arith, rest.0), omega (arith, rest.1)) (omega arith, omega arith)
name_within (suc skip) (b ∷ bs) at = let rest = name_within skip bs (at + 1) in (omega (arith, rest.0), omega (arith, rest.1))

pub prefix_within : (test : ℕ → Bool) (bs : List ℕ) → prefix_len test bs ≤ length bs
prefix_within test [] = omega arith
prefix_within test (b ∷ bs) = (between 0 (length (b ∷ bs)) (test b) _ _ (omega arith, omega (arith, prefix_within test bs)) (omega arith, omega arith)).1

-- the place of a fault of an escape, and the size of an escape
abbrev pub EscapeWithin : ℕ → ℕ → ℕ → Result Escape LexFault → Type 0
EscapeWithin size lo hi (Ok e) = e.size ≤ size
EscapeWithin size lo hi (Err f) = (lo ≤ place f) × (place f ≤ hi)

escape_resized : (size size' lo hi hi' : ℕ) (r : Result Escape LexFault) → size ≡ size' → hi ≡ hi' → EscapeWithin size lo hi r → EscapeWithin size' lo hi' r
escape_resized size size' lo hi hi' r e f w = subst (λ h. EscapeWithin size' lo h r) f (subst (λ n. EscapeWithin n lo hi r) e w)

module _ (size lo hi : ℕ) where
  if_escape : (b : Bool) (x y : Result Escape LexFault) → EscapeWithin size lo hi x → EscapeWithin size lo hi y → EscapeWithin size lo hi (if b then x else y)
  if_escape true x y h k = h
  if_escape false x y h k = k

closing_within : (before len value : ℕ) (rest : List ℕ) (at : ℕ) → 1 ≤ at → EscapeWithin (before + len + length rest) (at - 1) (at + (before + len + length rest)) (closing before len value rest at)
closing_within before len value [] at h = (omega arith, omega arith)
closing_within before len value (b ∷ bs) at h =
    let size = before + len + length (b ∷ bs) in
    if_escape size (at - 1) (at + size) ((len == 0) || nat_lt b 92 || nat_lt 92 b) _ _ (omega arith, omega arith)
    (if_escape size (at - 1) (at + size) (is_scalar value) _ _ (omega arith) (omega arith, omega arith))

numbered_within : (base before : ℕ) (bs : List ℕ) (at : ℕ) → 1 ≤ at → EscapeWithin (before + length bs) (at - 1) (at + (before + length bs)) (numbered base before bs at)
numbered_within base before bs at h =
    let len = digits_len base bs in
    let fits : len ≤ length bs = prefix_within (λ b. is_digit b base) bs in
    let same : before + len + length (drop len bs) ≡ before + length bs = omega (arith, fits, length-drop len bs) in
    escape_resized _ _ _ _ _ _ same (ap (λ n. at + n) same) (closing_within before len (digits_value base bs) (drop len bs) at h)

pub escape_within : (bs : List ℕ) (at : ℕ) → 1 ≤ at → EscapeWithin (length bs) (at - 1) (at + length bs) (escape bs at)
escape_within [] at h = (omega arith, omega arith)
escape_within (b ∷ bs) at h = by (letter b)
  where
    size : ℕ
    size = length (b ∷ bs)

    one : 1 + length bs ≡ length (b ∷ bs)
    one = omega arith

    by : (c : Option ℕ) → EscapeWithin (length (b ∷ bs)) (at - 1) (at + length (b ∷ bs)) (escape_at c b bs at)
    by (Some c) = omega arith
    by None =
        if_escape (length (b ∷ bs)) (at - 1) (at + length (b ∷ bs)) (b == 10) _ _ (omega arith)
        (if_escape (length (b ∷ bs)) (at - 1) (at + length (b ∷ bs)) (b == 120) _ _ (escape_resized _ _ _ _ _ _ one (ap (λ n. at + n) one) (numbered_within 16 1 bs at h))
        (if_escape (length (b ∷ bs)) (at - 1) (at + length (b ∷ bs)) (is_digit b 8) _ _ (escape_resized _ _ _ _ _ _ (zero-add (length (b ∷ bs))) (ap (λ n. at + n) (zero-add (length (b ∷ bs)))) (numbered_within 8 0 (b ∷ bs) at h))
        (omega arith, omega arith)))

-- a character in front changes no end
pub ends_in_front : (c : Option ℕ) (r : Result Quoted LexFault) → ends (in_front c r) ≡ ends r
ends_in_front c (Ok q) = refl
ends_in_front c (Err f) = refl

module _ (lo hi : ℕ) where
  if_quoted : (b : Bool) (x y : Result Quoted LexFault) → Within lo hi (ends x) → Within lo hi (ends y) → Within lo hi (ends (if b then x else y))
  if_quoted true x y h k = h
  if_quoted false x y h k = k

  front_within : (c : Option ℕ) (r : Result Quoted LexFault) → Within lo hi (ends r) → Within lo hi (ends (in_front c r))
  front_within c r w = subst (Within lo hi) (sym (ends_in_front c r)) w

pub quoted_within : (q skip : ℕ) (bs : List ℕ) (at : ℕ) → Within at (at + length bs) (ends (quoted q skip bs at))
quoted_within q zero [] at = (omega arith, omega arith)
quoted_within q (suc skip) [] at = (omega arith, omega arith)
quoted_within q (suc skip) (b ∷ bs) at = wider _ _ _ _ _ (omega arith) (omega arith) (quoted_within q skip bs (at + 1))
quoted_within q zero (b ∷ bs) at =
    let rest : (skip : ℕ) → Within at (at + length (b ∷ bs)) (ends (quoted q skip bs (at + 1))) = λ skip. wider _ _ _ _ _ (omega arith) (omega arith) (quoted_within q skip bs (at + 1)) in
    if_quoted at (at + length (b ∷ bs)) (b == 10) _ _ (omega arith, omega arith)
    (if_quoted at (at + length (b ∷ bs)) (b == q) _ _
    (if_quoted at (at + length (b ∷ bs)) (begins_with q bs) _ _ (front_within at (at + length (b ∷ bs)) (Some q) _ (rest 1)) (omega arith, omega arith))
    (if_quoted at (at + length (b ∷ bs)) (b == 92) _ _ (behind rest (escape bs (at + 1)) (escape_within bs (at + 1) (omega arith))) (plain rest (first_char (b ∷ bs)))))
  where
    behind : ((skip : ℕ) → Within at (at + length (b ∷ bs)) (ends (quoted q skip bs (at + 1)))) → (r : Result Escape LexFault) → EscapeWithin (length bs) (at + 1 - 1) (at + 1 + length bs) r
        → Within at (at + length (b ∷ bs)) (ends (elim r [ Ok e ↦ in_front e.stands_for (quoted q e.size bs (at + 1)) | Err f ↦ Err f ]))
    behind rest (Ok e) w = front_within at (at + length (b ∷ bs)) e.stands_for _ (rest e.size)
    behind rest (Err f) w = (omega (arith, w.0), omega (arith, w.1))

    plain : ((skip : ℕ) → Within at (at + length (b ∷ bs)) (ends (quoted q skip bs (at + 1)))) → (c : Option ℕ)
        → Within at (at + length (b ∷ bs)) (ends (elim c [ Some c ↦ in_front (Some c) (quoted q (continuation_len b) bs (at + 1)) | None ↦ Err (BadByte at) ]))
    plain rest (Some c) = front_within at (at + length (b ∷ bs)) (Some c) _ (rest (continuation_len b))
    plain rest None = (omega arith, omega arith)
