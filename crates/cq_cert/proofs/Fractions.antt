-- Fractions in lowest terms, and what the parts of a text read as.
use Rattle.std.proofs.Common.{◌≡◌, inl, inr, ℕ, ◌<◌, arith, List, [], ◌∷◌, Bool, true, false, cond, ◌&&◌, nat_eq, nat_lt, Some, None, refl, sym, ap, ◌∙◌}
use Rattle.std.specs.Prelude.{◌==◌, pos, nat_abs}
use Rattle.std.specs.List.{slice_split, onto_first}
use Rattle.spec_numbers.specs.Texts.{Text}
use Rattle.spec_numbers.specs.Rational.{ℚ, ratio, denominator, neg_ℚ}
use Rattle.spec_linear.specs.Form.{is_zero}
use Rattle.spec_numbers.proofs.Tests.{nat_eq-same, both_are}
use Rattle.cq_frac.specs.Fits.{Exceeds, limit}
use Rattle.cq_frac.specs.declared.FracFault.{FracFault}
use Rattle.cq_frac.specs.declared.FracFault.TheVariants.{Overflow, ZeroDivisor}
use Rattle.cq_frac.proofs.Halves.{gcd-one}
use Rattle.spec_numbers.proofs.RationalLemmas.{ratio_back}
use Rattle.spec_log.specs.Verdicts.{is_lowest, lowest_in, parts_in, unsigned_in, negated_in, fraction_in, pair_of, pair_in}

-- ---- parts

-- a text has one part at least
pub record HasFirst (parts : List Text) : Type 0 where
  pub head : Text
  pub tail : List Text
  pub is : parts ≡ head ∷ tail

pub some_part : (at : ℕ) (t : Text) → HasFirst (slice_split (λ b. b == at) t)
some_part at [] = record { head = []; tail = []; is = refl }
some_part at (c ∷ t) = go (c == at) (some_part at t)
  where
    by : (parts : List Text) (h : Text) (u : List Text) → parts ≡ h ∷ u → HasFirst (onto_first c parts)
    by parts h u e = record { head = c ∷ h; tail = u; is = ap (onto_first c) e }

    go : (x : Bool) → HasFirst (slice_split (λ b. b == at) t) → HasFirst (cond x ([] ∷ slice_split (λ b. b == at) t) (onto_first c (slice_split (λ b. b == at) t)))
    go true h = record { head = []; tail = slice_split (λ b. b == at) t; is = refl }
    go false h = by (slice_split (λ b. b == at) t) h.head h.tail h.is

abbrev cuts : ℕ → Text → List Text
cuts at t = slice_split (λ b. b == at) t

pub more_parts : (w over rest under more : Text) → cuts 114 w ≡ over ∷ cuts 114 rest → cuts 114 rest ≡ under ∷ cuts 114 more → None ≡ unsigned_in w
more_parts w over rest under more e f =
    let h = some_part 114 more in
    sym (ap parts_in (e ∙ ap (λ s. over ∷ s) (f ∙ ap (λ s. under ∷ s) h.is)))

-- ---- pairs

pub too_many : (w left rest right more : Text) → cuts 58 w ≡ left ∷ cuts 58 rest → cuts 58 rest ≡ right ∷ cuts 58 more → None ≡ pair_in w
too_many w left rest right more e f =
    let h = some_part 58 more in
    sym (ap pair_of (e ∙ ap (λ s. left ∷ s) (f ∙ ap (λ s. right ∷ s) h.is)))

-- ---- fractions

-- a ratio of a whole number has no sign
above : (a b : ℕ) → (ratio (pos a) b).numerator ≡ pos (nat_abs (ratio (pos a) b).numerator)
unfolding ratio
above a b = refl

whole_numerator : (a : ℕ) → (ratio (pos a) 1).numerator ≡ pos a
whole_numerator a = ap (λ (q : ℚ). q.numerator) (ratio_back (record { numerator = pos a; below = 0; lowest = sym (gcd-one a 1 (inr refl)) }))

whole_denominator : (a : ℕ) → denominator (ratio (pos a) 1) ≡ 1
whole_denominator a = ap denominator (ratio_back (record { numerator = pos a; below = 0; lowest = sym (gcd-one a 1 (inr refl)) }))

-- a whole number fits as a fraction
pub whole_fits : (a : ℕ) → a < limit → Exceeds (ratio (pos a) 1) → ⊥
whole_fits a h (inl k) = let e = ap nat_abs (whole_numerator a) in omega (arith, h, k, e)
whole_fits a h (inr k) = let e = whole_denominator a in omega (arith, k, e)

not_lowest : (a b : ℕ) → is_lowest a b ≡ false → None ≡ lowest_in (Some a) (Some b)
not_lowest a b e = go (nat_lt 1 b) (is_lowest a b) e
  where
    go : (x y : Bool) → y ≡ false → None ≡ cond (x && y) (Some (ratio (pos a) b)) None
    go true true d = cc
    go true false d = refl
    go false y d = refl

-- whether the parts are these
same_parts : (a b : ℕ) → is_lowest a b ≡ true → (nat_abs (ratio (pos a) b).numerator ≡ a) × (denominator (ratio (pos a) b) ≡ b)
same_parts a b e =
    let k = both_are (nat_eq (nat_abs (ratio (pos a) b).numerator) a) (nat_eq (denominator (ratio (pos a) b)) b) e in
    (nat_eq-same (nat_abs (ratio (pos a) b).numerator) a k.0, nat_eq-same (denominator (ratio (pos a) b)) b k.1)

no_parts : (a b : ℕ) → ((nat_abs (ratio (pos a) b).numerator ≡ a) × (denominator (ratio (pos a) b) ≡ b) → ⊥) → is_lowest a b ≡ false
no_parts a b never = go (is_lowest a b) refl
  where
    go : (x : Bool) → is_lowest a b ≡ x → x ≡ false
    go true e = absurd (never (same_parts a b e))
    go false e = refl

pub lowest_not : (a b : ℕ) (q : ℚ) → q ≡ ratio (pos a) b → ((q.numerator ≡ pos a) × (pos (denominator q) ≡ pos b) → ⊥) → None ≡ lowest_in (Some a) (Some b)
lowest_not a b q e never = not_lowest a b (no_parts a b (λ p. never (
  ap (λ (r : ℚ). r.numerator) e ∙ above a b ∙ ap pos p.0,
  ap (λ (r : ℚ). pos (denominator r)) e ∙ ap pos p.1,
)))

-- a whole number that fits is never refused
pub never_refused : (a : ℕ) (f : FracFault) → a < limit → (f ≡ ZeroDivisor → pos 1 ≡ pos 0) → (f ≡ Overflow → Exceeds (ratio (pos a) 1)) → ⊥
never_refused a ZeroDivisor h zero_divisor overflow = omega (arith, ap nat_abs (zero_divisor refl))
never_refused a Overflow h zero_divisor overflow = whole_fits a h (overflow refl)

-- ---- a sign in front

pub negative_zero : (word rest : Text) (b : ℕ) (q : ℚ) → word ≡ b ∷ rest → b ≡ 45 → Some q ≡ unsigned_in rest → is_zero q ≡ true → None ≡ fraction_in word
negative_zero word rest b q split sign is none =
    sym (ap fraction_in (split ∙ ap (λ x. x ∷ rest) sign) ∙ ap negated_in (sym is) ∙ ap (λ x. cond x None (Some (neg_ℚ q))) none)

pub negative_some : (word rest : Text) (b : ℕ) (q : ℚ) → word ≡ b ∷ rest → b ≡ 45 → Some q ≡ unsigned_in rest → is_zero q ≡ false → Some (neg_ℚ q) ≡ fraction_in word
negative_some word rest b q split sign is some =
    sym (ap fraction_in (split ∙ ap (λ x. x ∷ rest) sign) ∙ ap negated_in (sym is) ∙ ap (λ x. cond x None (Some (neg_ℚ q))) some)
