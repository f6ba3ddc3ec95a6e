-- A dictionary and the solutions that it writes: its columns are free, so rays are solutions.
use Rattle.std.proofs.Common.{◌≡◌, ℕ, ◌<◌, [], ◌∷◌, Bool, true, false, nat_eq, pos, refl, ap, sym, subst, ◌∙◌}
use Rattle.spec_numbers.specs.Rational.{ℚ, 0ℚ, ◌+ℚ◌, ◌*ℚ◌}
use Rattle.spec_numbers.proofs.Ring.{var, int, ◌⊕◌, ◌⊗◌}
use Rattle.spec_numbers.proofs.RationalLemmas.{ring}
use Rattle.spec_simplex.specs.Dictionary.{Dictionary, IsDictionary, Satisfies, AreEquivalent, sum_below, pick, ray, basic_solution}
use Rattle.spec_simplex.proofs.Sums.{sum_none, sum_only}
use Rattle.spec_numbers.proofs.Tests.{nat_eq-apart, nat_eq-self}

-- ---- small facts
pub true_not_false : (b : Bool) → b ≡ true → b ≡ false → ⊥
true_not_false b h k = cc

pub pick_true : (b : Bool) (p q : ℚ) → b ≡ true → pick b p q ≡ p
pick_true true p q h = refl
pick_true false p q h = cc

pub pick_false : (b : Bool) (p q : ℚ) → b ≡ false → pick b p q ≡ q
pick_false true p q h = cc
pick_false false p q h = refl

-- ---- what a dictionary says of the solutions S
pub record Writes (size : ℕ) (S : (ℕ → ℚ) → ℚ → Type 0) (d : Dictionary) : Type 0 where
  pub rows_below : (q : ℕ) → d.is_row q ≡ true → q < size
  pub columns_below : (c : ℕ) → d.is_column c ≡ true → c < size
  pub apart : (c : ℕ) → d.is_column c ≡ true → d.is_row c ≡ false
  pub no_other_entry : (q c : ℕ) → d.is_column c ≡ false → d.entry q c ≡ 0ℚ
  pub no_other_coefficient : (c : ℕ) → d.is_column c ≡ false → d.coefficient c ≡ 0ℚ
  pub rows : (x : ℕ → ℚ) (z : ℚ) → S x z → (q : ℕ) → d.is_row q ≡ true → x q ≡ d.constant q +ℚ sum_below size (λ c. d.entry q c *ℚ x c)
  pub asked : (x : ℕ → ℚ) (z : ℚ) → S x z → z ≡ d.value +ℚ sum_below size (λ c. d.coefficient c *ℚ x c)
  pub basic : S (basic_solution d) d.value
  pub rays : (c : ℕ) → d.is_column c ≡ true → (y : ℚ) → S (ray d c y) (d.value +ℚ d.coefficient c *ℚ y)

module _ (size : ℕ) (d : Dictionary) (w : IsDictionary size d) where
  -- sums over the columns, at the basic solution and on a ray
  nothing : (a : ℕ → ℚ) → ((c : ℕ) → d.is_column c ≡ false → a c ≡ 0ℚ) → sum_below size (λ c. a c *ℚ basic_solution d c) ≡ 0ℚ
  nothing a n = sum_none size _ (λ c l. term c (d.is_column c) refl)
    where
      term : (c : ℕ) (b : Bool) → d.is_column c ≡ b → a c *ℚ basic_solution d c ≡ 0ℚ
      term c false e = ap (λ y. y *ℚ basic_solution d c) (n c e) ∙ ring (basic_solution d c ∷ []) (int (pos 0) ⊗ var 0) (int (pos 0)) refl
      term c true e = ap (λ y. a c *ℚ y) (pick_false (d.is_row c) (d.constant c) 0ℚ (w.apart c e)) ∙ ring (a c ∷ []) (var 0 ⊗ int (pos 0)) (int (pos 0)) refl

  one : (a : ℕ → ℚ) → ((c : ℕ) → d.is_column c ≡ false → a c ≡ 0ℚ) → (c : ℕ) → d.is_column c ≡ true → (y : ℚ) → sum_below size (λ j. a j *ℚ ray d c y j) ≡ a c *ℚ y
  one a n c h y =
      sum_only size _ c (w.columns_below c h) (λ j m. term j m (d.is_column j) refl)
      ∙ ap (λ v. a c *ℚ v) (pick_true (nat_eq c c) y _ (nat_eq-self c))
    where
      term : (j : ℕ) → (j ≡ c → ⊥) → (b : Bool) → d.is_column j ≡ b → a j *ℚ ray d c y j ≡ 0ℚ
      term j m false e = ap (λ v. v *ℚ ray d c y j) (n j e) ∙ ring (ray d c y j ∷ []) (int (pos 0) ⊗ var 0) (int (pos 0)) refl
      term j m true e =
          ap (λ v. a j *ℚ v) (pick_false (nat_eq j c) y _ (nat_eq-apart j c m) ∙ pick_false (d.is_row j) _ 0ℚ (w.apart j e))
          ∙ ring (a j ∷ []) (var 0 ⊗ int (pos 0)) (int (pos 0)) refl

  pub basic_satisfies : Satisfies size d (basic_solution d) d.value
  basic_satisfies = record {
    rows = λ q h. pick_true (d.is_row q) _ 0ℚ h ∙ sym (only (d.constant q) _ (nothing (d.entry q) (λ c e. w.no_other_entry q c e)));
    asked = sym (only d.value _ (nothing d.coefficient w.no_other_coefficient));
  }
    where
      only : (k s : ℚ) → s ≡ 0ℚ → k +ℚ s ≡ k
      only k s e = ap (λ y. k +ℚ y) e ∙ ring (k ∷ []) (var 0 ⊕ int (pos 0)) (var 0) refl

  pub ray_satisfies : (c : ℕ) → d.is_column c ≡ true → (y : ℚ) → Satisfies size d (ray d c y) (d.value +ℚ d.coefficient c *ℚ y)
  ray_satisfies c h y = record {
    rows = λ q k.
        pick_false (nat_eq q c) y _ (nat_eq-apart q c (λ e. true_not_false (d.is_row c) (subst (λ z. d.is_row z ≡ true) e k) (w.apart c h)))
        ∙ pick_true (d.is_row q) _ 0ℚ k
        ∙ ap (λ v. d.constant q +ℚ v) (sym (one (d.entry q) (λ c e. w.no_other_entry q c e) c h y));
    asked = ap (λ v. d.value +ℚ v) (sym (one d.coefficient w.no_other_coefficient c h y));
  }

-- a dictionary writes what satisfies it or one that is alike
pub writes : (size : ℕ) (d e : Dictionary) → IsDictionary size e → AreEquivalent size d e → Writes size (Satisfies size d) e
writes size d e w a = record {
  rows_below = w.rows_below;
  columns_below = w.columns_below;
  apart = w.apart;
  no_other_entry = w.no_other_entry;
  no_other_coefficient = w.no_other_coefficient;
  rows = λ x z s. ((a x z).0 s).rows;
  asked = λ x z s. ((a x z).0 s).asked;
  basic = (a _ _).1 (basic_satisfies size e w);
  rays = λ c h y. (a _ _).1 (ray_satisfies size e w c h y);
}

pub alike_itself : (size : ℕ) (d : Dictionary) → AreEquivalent size d d
alike_itself size d x z = (λ s. s, λ s. s)
