-- A live column rises where no restricted quantity without room falls along it.
use Rattle.std.proofs.Common.{◌≡◌, ℕ, zero, suc, ◌<◌, ◌≤◌, arith, List, [], ◌∷◌, Bool, true, false, ◌⊎◌, inl, inr, pos, refl, ap, sym, subst, ◌∙◌}
use Rattle.spec_numbers.proofs.Tests.{nat_eq-self}
use Rattle.spec_numbers.specs.Rational.{ℚ, 0ℚ, 1ℚ, ◌+ℚ◌, ◌*ℚ◌, inv_ℚ, IsPositive, IsNotNegative}
use Rattle.spec_numbers.specs.Sums.{when, factor_of}
use Rattle.spec_numbers.proofs.Ring.{var, int, ◌⊕◌, ◌⊗◌}
use Rattle.spec_numbers.proofs.RationalLemmas.{ring}
use Rattle.spec_numbers.proofs.Sign.{nonneg_add, nonneg_mul, pos_nonneg, pos_one, inv_mul, inv_pos}
use Rattle.spec_numbers.proofs.Order.{le_refl}
use Rattle.spec_linear.specs.Solution.{Constraint}
use Rattle.spec_linear.proofs.Eventually.{Eventually, both, from_zero, rises}
use Rattle.spec_simplex.specs.Reach.{Rises}
use Rattle.spec_simplex.specs.Tableau.{Tableau, numbers, Sound, HasRoom}
use Rattle.spec_simplex.proofs.Standing.{x0, x1, x2, clash}
use Rattle.spec_simplex.proofs.Linked.{last_one}
use Rattle.spec_simplex.proofs.TableauWritten.{ray, ray_is, solves_weak}

module _ (d : Tableau) (l : List Constraint) (i : Sound d l) (c : ℕ) (room : HasRoom d c) where
  abbrev Long : ℚ → ℕ → Type 0
  Long t q = IsNotNegative (t *ℚ (d.row q).constant +ℚ factor_of c (d.row q).live)

  one_long : (q : ℕ) → q < d.count → (r : d.is_restricted q ≡ true) → Eventually (λ t. Long t q)
  one_long q h r = go (room q h r)
    where
      go : IsPositive (d.row q).constant ⊎ IsNotNegative (factor_of c (d.row q).live) → Eventually (λ t. Long t q)
      go (inl p) = let e = rises (d.row q).constant (factor_of c (d.row q).live) p in record { from = e.from; holds = λ t le. pos_nonneg (e.holds t le) }
      go (inr n) = from_zero (λ t k. nonneg_add (nonneg_mul k (i.feasible.constants q h r)) n)

  each_long : (n : ℕ) → n ≤ d.count → Eventually (λ t. (q : ℕ) → q < n → d.is_restricted q ≡ true → Long t q)
  each_long zero h = from_zero (λ t k q m r. absurd (omega arith))
  each_long (suc n) h = go (each_long n (omega arith)) (d.is_restricted n) refl
    where
      by : (t : ℚ) → ((q : ℕ) → q < n → d.is_restricted q ≡ true → Long t q) → (d.is_restricted n ≡ true → Long t n) → (q : ℕ) → d.is_restricted q ≡ true →
          (q < n) ⊎ (q ≡ n) → Long t q
      by t f g q r (inl m) = f q m r
      by t f g q r (inr m) = subst (Long t) (sym m) (g (sym (ap d.is_restricted m) ∙ r))

      go : Eventually (λ t. (q : ℕ) → q < n → d.is_restricted q ≡ true → Long t q) → (b : Bool) → d.is_restricted n ≡ b →
          Eventually (λ t. (q : ℕ) → q < suc n → d.is_restricted q ≡ true → Long t q)
      go rec false e =
          record { from = rec.from; holds = λ t le q m r. by t (rec.holds t le) (λ k. absurd (clash (d.is_restricted n) e k)) q r (last_one q n m) }
      go rec true e =
          let o = both rec (one_long n (omega arith) e) in
          record { from = o.from; holds = λ t le q m r. let w = o.holds t le in by t w.0 (λ k. w.1) q r (last_one q n m) }

  pub column_rises : d.is_live c ≡ true → Rises l (d.form c)
  column_rises e = ((ray d i.written t c).at, (positive, solves_weak d l i (ray d i.written t c).at (ray d i.written t c).dropped obeys))
    where
      long : Eventually (λ t. IsPositive (t *ℚ 1ℚ +ℚ 0ℚ) × ((q : ℕ) → q < d.count → d.is_restricted q ≡ true → Long t q))
      long = both (rises 1ℚ 0ℚ pos_one) (each_long d.count (omega arith))

      n : ℚ
      n = long.from

      big : IsPositive n
      big = subst IsPositive (ring (n ∷ []) (x0 ⊗ int (pos 1) ⊕ int (pos 0)) x0 refl) (long.holds n (le_refl n)).0

      t : ℚ
      t = inv_ℚ (n)

      positive : IsPositive (numbers d (ray d i.written t c).at c)
      positive =
          subst IsPositive (ring (t ∷ []) x0 (x0 ⊗ int (pos 1)) refl ∙ ap (λ b. t *ℚ when b 1ℚ) (sym (nat_eq-self c)) ∙ sym ((ray d i.written t c).live c e))
          (inv_pos big)

      obeys : (q : ℕ) → q < d.count → d.is_restricted q ≡ true → IsNotNegative (numbers d (ray d i.written t c).at q)
      obeys q h r =
          subst IsNotNegative
          (ring (t ∷ n ∷ (d.row q).constant ∷ factor_of c (d.row q).live ∷ []) (x0 ⊗ (x1 ⊗ x2 ⊕ var 3)) ((x1 ⊗ x0) ⊗ x2 ⊕ x0 ⊗ var 3) refl
          ∙ ap (λ b. b *ℚ (d.row q).constant +ℚ t *ℚ factor_of c (d.row q).live) (inv_mul big)
          ∙ ring ((d.row q).constant ∷ (t *ℚ factor_of c (d.row q).live) ∷ []) (int (pos 1) ⊗ x0 ⊕ x1) (x0 ⊕ x1) refl
          ∙ sym (ray_is d i.written q h t c))
          (nonneg_mul (pos_nonneg (inv_pos big)) ((long.holds n (le_refl n)).1 q h r))
