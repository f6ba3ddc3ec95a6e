-- What stands before a byte below 128 and does not take it is the same, whatever comes after that byte.
use Rattle.std.proofs.Common.{◌≡◌, ℕ, zero, suc, ◌+◌, ◌*◌, ◌<◌, ◌≤◌, Bool, true, false, cond, List, [], ◌∷◌, ◌++◌, length, length-append, take, get_or, nat_lt, Option, Some, None, Result, Ok, Err, refl, sym, ap, subst, ◌∙◌, arith}
use Rattle.std.specs.Prelude.{bytes_eq, ◌==◌, ◌&&◌, if◌then◌else◌}
use Rattle.std.specs.Char.{is_digit, digit_value}
use Rattle.std.specs.List.{prefix_len}
use Rattle.std.specs.Str.{continuation_len, lead_bits, chars, chars_after, is_utf8, IsUtf8, all_scalars, encode_utf8_all}
use Rattle.std.proofs.Math.Seq.{take-append_seam, get_or-append_seam}
use Rattle.std.proofs.lemmas.Bool.Decides.{nat_tests}
use Rattle.std.proofs.lemmas.Str.{IsUtf8-from_is_utf8, is_utf8-from_IsUtf8, IsUtf8-take, IsCharBoundary-before_ascii}
use Rattle.spec_syntax.specs.declared.grammar.Gap.{Gap}
use Rattle.spec_syntax.specs.declared.grammar.Gap.TheVariants.{Between, Line, Opening, Block, Closing}
use Rattle.spec_syntax.specs.declared.grammar.LexFault.{LexFault}
use Rattle.spec_syntax.specs.Characters.{is_layout, begins, begins_with, first_char, passes, continues_name, name_end}
use Rattle.spec_syntax.specs.Gaps.{place, gap}
use Rattle.spec_syntax.specs.Quotes.{digits_len, digits_onto}
use Rattle.spec_syntax.proofs.Again.{first_char-ascii, first_char-append}
use Rattle.spec_syntax.proofs.Bounds.{Within, gap_within, name_within}
use Rattle.spec_syntax.proofs.Characters.{short_chars}

module _ {A : Type 0} (P : A → Type 0) where
  -- a choice is the same where the choice that is taken is
  pub if_kept : (b : Bool) (x y x' y' : A) → (P x → x' ≡ x) → (P y → y' ≡ y) → P (if b then x else y) → (if b then x' else y') ≡ (if b then x else y)
  if_kept true x y x' y' h k p = h p
  if_kept false x y x' y' h k p = k p

  pub if_seen : (b : Bool) (x y x' y' : A) → (b ≡ true → P x → x' ≡ x) → (P y → y' ≡ y) → P (if b then x else y) → (if b then x' else y') ≡ (if b then x else y)
  if_seen true x y x' y' h k p = h refl p
  if_seen false x y x' y' h k p = k p

  -- a choice has what both choices have
  pub if_holds : (b : Bool) (x y : A) → P x → P y → P (if b then x else y)
  if_holds true x y h k = h
  if_holds false x y h k = k

no_char : (b : ℕ) (bs : List ℕ) → length bs < continuation_len b → is_utf8 (b ∷ bs) ≡ true → ⊥
unfolding is_utf8 chars
no_char b bs short e =
    let none : chars_after (continuation_len b) (lead_bits b) bs ≡ [] = short_chars (continuation_len b) (lead_bits b) bs short in
    let wrong : false ≡ true = subst (λ cs. (all_scalars cs && bytes_eq (encode_utf8_all cs) (b ∷ bs)) ≡ true) none e in
    absurd (cc)

take_past : (n c : ℕ) (q more : List ℕ) → length q < n → (m : ℕ) × (take n (q ++ c ∷ more) ≡ q ++ c ∷ take m more)
take_past zero c q more h = absurd (omega arith)
take_past (suc n) c [] more h = (n, refl)
take_past (suc n) c (b ∷ q) more h = let rest = take_past n c q more (omega arith) in (rest.0, ap (λ xs. b ∷ xs) rest.1)

some_if : (ascii utf8 : Bool) (b : ℕ) (o : Option ℕ) → ascii ≡ false → (utf8 ≡ true → ⊥) → (if ascii then Some b else if utf8 then o else None) ≡ None
some_if true utf8 b o e h = absurd (cc)
some_if false true b o e h = absurd (h refl)
some_if false false b o e h = refl

module _ (c : ℕ) (small : c < 128) where
  -- no character has a byte below 128 among those behind its first
  cut_char : (b : ℕ) (q more : List ℕ) → length q < continuation_len b → is_utf8 (b ∷ (q ++ c ∷ more)) ≡ true → ⊥
  cut_char b q more short e =
      let whole = b ∷ (q ++ c ∷ more) in
      let stands : get_or whole (length (b ∷ q)) 0 ≡ c = get_or-append_seam (b ∷ q) c more 0 in
      let fits : length (b ∷ q) < length whole = omega (arith, length-append (b ∷ q) (c ∷ more)) in
      let front : IsUtf8 (take (length (b ∷ q)) whole) =
      IsUtf8-take whole (length (b ∷ q)) (IsUtf8-from_is_utf8 whole e) (IsCharBoundary-before_ascii whole (length (b ∷ q)) fits (omega (arith, stands))) in
      no_char b q short (is_utf8-from_IsUtf8 (b ∷ q) (subst IsUtf8 (take-append_seam (b ∷ q) (c ∷ more)) front))

  first_char-cut : (b : ℕ) (q more : List ℕ) → length q < continuation_len b → first_char (b ∷ (q ++ c ∷ more)) ≡ None
  unfolding first_char
  first_char-cut b q more short =
      let big : nat_lt b 128 ≡ false = grind (arith, nat_tests) in
      let front = take_past (continuation_len b) c q more short in
      some_if (nat_lt b 128) (is_utf8 (b ∷ take (continuation_len b) (q ++ c ∷ more))) b _ big
      (λ e. cut_char b q (take front.0 more) short (subst (λ bs. is_utf8 (b ∷ bs) ≡ true) front.1 e))

  module _ (rest other : List ℕ) where
    pub begins_kept : (test : ℕ → Bool) (q : List ℕ) → begins test (q ++ c ∷ other) ≡ begins test (q ++ c ∷ rest)
    begins_kept test [] = refl
    begins_kept test (b ∷ q) = refl

    pub first_kept : (b : ℕ) (q : List ℕ) → first_char (b ∷ (q ++ c ∷ other)) ≡ first_char (b ∷ (q ++ c ∷ rest))
    first_kept b q = by (nat_lt (length q) (continuation_len b)) refl
      where
        by : (short : Bool) → nat_lt (length q) (continuation_len b) ≡ short → first_char (b ∷ (q ++ c ∷ other)) ≡ first_char (b ∷ (q ++ c ∷ rest))
        by true e = let lt : length q < continuation_len b = grind (arith, nat_tests) in first_char-cut b q other lt ∙ sym (first_char-cut b q rest lt)
        by false e =
            let le : continuation_len b ≤ length q = grind (arith, nat_tests) in
            first_char-append b q (c ∷ other) le ∙ sym (first_char-append b q (c ∷ rest) le)

    pub prefix_kept : (test : ℕ → Bool) (q : List ℕ) → prefix_len test (q ++ c ∷ rest) ≤ length q → prefix_len test (q ++ c ∷ other) ≡ prefix_len test (q ++ c ∷ rest)
    prefix_kept test [] fits = if_kept (λ n. n ≤ 0) (test c) _ _ _ _ (λ p. absurd (omega arith)) (λ p. refl) fits
    prefix_kept test (b ∷ q) fits =
        if_kept (λ n. n ≤ length (b ∷ q)) (test b) _ _ _ _ (λ p. ap (λ n. 1 + n) (prefix_kept test q (omega arith))) (λ p. refl) fits

    pub onto_kept : (base value : ℕ) (q : List ℕ) → digits_len base (q ++ c ∷ rest) ≤ length q → digits_onto base value (q ++ c ∷ other) ≡ digits_onto base value (q ++ c ∷ rest)
    onto_kept base value [] fits = by (is_digit c base) fits
      where
        by : (digit : Bool) → cond digit (1 + digits_len base rest) 0 ≤ 0
            → (if digit then digits_onto base (value * base + digit_value c) other else value) ≡ (if digit then digits_onto base (value * base + digit_value c) rest else value)
        by true h = absurd (omega arith)
        by false h = refl
    onto_kept base value (b ∷ q) fits = by (is_digit b base) (λ p. onto_kept base (value * base + digit_value b) q p) fits
      where
        by : (digit : Bool) → (digits_len base (q ++ c ∷ rest) ≤ length q → digits_onto base (value * base + digit_value b) (q ++ c ∷ other) ≡ digits_onto base (value * base + digit_value b) (q ++ c ∷ rest))
            → cond digit (1 + digits_len base (q ++ c ∷ rest)) 0 ≤ length (b ∷ q)
            → (if digit then digits_onto base (value * base + digit_value b) (q ++ c ∷ other) else value) ≡ (if digit then digits_onto base (value * base + digit_value b) (q ++ c ∷ rest) else value)
        by true again h = again (omega arith)
        by false again h = refl

    pub name_kept : (skip : ℕ) (q : List ℕ) (at end : ℕ) → end ≡ at + length q → name_end skip (q ++ c ∷ rest) at ≤ end → name_end skip (q ++ c ∷ other) at ≡ name_end skip (q ++ c ∷ rest) at
    name_kept zero [] at end e fits =
        rw (first_char-ascii c other small, first_char-ascii c rest small) (if_kept (λ n. n ≤ end) (continues_name c) _ _ _ _
        (λ p. absurd (omega (arith, p, (name_within (continuation_len c) rest (at + 1)).0))) (λ p. refl) (rw (first_char-ascii c rest small) at fits))
    name_kept (suc skip) [] at end e fits = absurd (omega (arith, fits, (name_within skip rest (at + 1)).0))
    name_kept zero (b ∷ q) at end e fits =
        rw (first_kept b q) (if_kept (λ n. n ≤ end) (passes continues_name (first_char (b ∷ (q ++ c ∷ rest)))) _ _ _ _
        (λ p. name_kept (continuation_len b) q (at + 1) end (omega arith) p) (λ p. refl) fits)
    name_kept (suc skip) (b ∷ q) at end e fits = name_kept skip q (at + 1) end (omega arith) fits

    -- the place behind the byte at which a gap ends, or a fault stands
    abbrev pub reached : Result ℕ LexFault → ℕ
    reached (Ok start) = start + 1
    reached (Err f) = place f + 1

    too_far : (lo hi end : ℕ) (r : Result ℕ LexFault) → Within lo hi r → end ≤ lo → reached r ≤ end → ⊥
    too_far lo hi end (Ok start) w h k = omega (arith, w.0)
    too_far lo hi end (Err f) w h k = omega (arith, w.0)

    pub gap_kept : (mode : Gap) (q : List ℕ) (at end : ℕ) → end ≡ at + length q → reached (gap mode (q ++ c ∷ rest) at) ≤ end → gap mode (q ++ c ∷ other) at ≡ gap mode (q ++ c ∷ rest) at
    gap_kept mode [] at end e fits = absurd (too_far at _ end (gap mode (c ∷ rest) at) (gap_within mode (c ∷ rest) at) (omega arith) fits)
    gap_kept Between (b ∷ q) at end e fits =
        rw (begins_kept (λ x. x == 42) q) (if_kept (λ r. reached r ≤ end) (is_layout b) _ _ _ _ (λ p. gap_kept Between q (at + 1) end (omega arith) p)
        (if_kept (λ r. reached r ≤ end) (b == 37) _ _ _ _ (λ p. gap_kept Line q (at + 1) end (omega arith) p)
        (if_kept (λ r. reached r ≤ end) ((b == 47) && begins_with 42 (q ++ c ∷ rest)) _ _ _ _ (λ p. gap_kept Opening q (at + 1) end (omega arith) p) (λ p. refl))) fits)
    gap_kept Line (b ∷ q) at end e fits =
        if_kept (λ r. reached r ≤ end) (b == 10) _ _ _ _ (λ p. gap_kept Between q (at + 1) end (omega arith) p) (λ p. gap_kept Line q (at + 1) end (omega arith) p) fits
    gap_kept Opening (b ∷ q) at end e fits = gap_kept Block q (at + 1) end (omega arith) fits
    gap_kept Block (b ∷ q) at end e fits =
        rw (begins_kept (λ x. x == 47) q) (if_kept (λ r. reached r ≤ end) ((b == 42) && begins_with 47 (q ++ c ∷ rest)) _ _ _ _
        (λ p. gap_kept Closing q (at + 1) end (omega arith) p) (λ p. gap_kept Block q (at + 1) end (omega arith) p) fits)
    gap_kept Closing (b ∷ q) at end e fits = gap_kept Between q (at + 1) end (omega arith) fits
