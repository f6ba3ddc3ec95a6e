-- A row that is not zero and has values on both sides: where it is zero a column of it takes its place, and the tableau stays feasible.
use Rattle.std.proofs.Common.{◌≡◌, ℕ, ◌<◌, List, [], ◌∷◌, Bool, true, false, nat_eq, inl, inr, pos, refl, ap, ap₂, sym, subst, ◌∙◌}
use Rattle.spec_numbers.proofs.Tests.{nat_eq-same, nat_eq-other}
use Rattle.spec_numbers.specs.Rational.{ℚ, 0ℚ, 1ℚ, ◌+ℚ◌, ◌*ℚ◌, neg_ℚ, inv_ℚ, IsNotNegative}
use Rattle.spec_numbers.specs.Sums.{Monomial, sum_at, when, unit, factor_of}
use Rattle.spec_numbers.proofs.Ring.{var, int, ◌⊕◌, ◌⊗◌, minus}
use Rattle.spec_numbers.proofs.RationalLemmas.{ring}
use Rattle.spec_numbers.proofs.Sign.{Sign, is_pos, is_neg, sign, nonneg_add, nonneg_mul, pos_nonneg, nonneg_zero, times_inverse}
use Rattle.spec_numbers.proofs.Sign as sign_of
use Rattle.spec_numbers.proofs.Sums.{sum_at-times, factor_of-is, unit-other}
use Rattle.spec_linear.specs.Form.{value_at}
use Rattle.spec_simplex.specs.Tableau.{Tableau, numbers, Within, AllIn, IsWritten, IsFeasible, IsUnlimited, Changed, Eliminated, HasFeasibleNumbers}
use Rattle.spec_simplex.proofs.Standing.{x0, x1, x2, clash}
use Rattle.spec_simplex.proofs.TableauWritten.{within_is, basic, basic_is, ray, ray_is}
use Rattle.spec_simplex.proofs.Steps.{within_back, more_made}

-- where two numbers differ by an entry and are equal, the entry is zero
no_entry : (k f : ℚ) → k +ℚ 1ℚ *ℚ f ≡ k → f ≡ 0ℚ
no_entry k f e =
    ring (k ∷ f ∷ []) x1 (minus x0 ⊕ (x0 ⊕ int (pos 1) ⊗ x1)) refl ∙ ap (λ b. neg_ℚ k +ℚ b) e ∙ ring (k ∷ []) (minus x0 ⊕ x0) (int (pos 0)) refl

-- ---- a point where each restricted live column but c is zero
module _ (d : Tableau) (w : IsWritten d) (c : ℕ) (v : ℕ → ℚ) (i : Within d v)
    (zeros : (z : ℕ) → d.is_live z ≡ true → d.is_restricted z ≡ true → (z ≡ c → ⊥) → numbers d v z ≡ 0ℚ) where
  along : (z : ℕ) → d.is_live z ≡ true → d.is_restricted z ≡ true → numbers d v z ≡ numbers d v c *ℚ unit c z
  along z l t = go (nat_eq c z) refl
    where
      go : (b : Bool) → nat_eq c z ≡ b → numbers d v z ≡ numbers d v c *ℚ when b 1ℚ
      go true k = ap (numbers d v) (sym (nat_eq-same c z k)) ∙ ring (numbers d v c ∷ []) x0 (x0 ⊗ int (pos 1)) refl
      go false k = zeros z l t (λ g. nat_eq-other c z k (sym g)) ∙ ring (numbers d v c ∷ []) (int (pos 0)) (x0 ⊗ int (pos 0)) refl

  sum_along : (s : List Monomial) → AllIn d.is_live s → AllIn d.is_restricted s → sum_at (numbers d v) s ≡ sum_at (λ z. numbers d v c *ℚ unit c z) s
  sum_along [] l t = refl
  sum_along (m ∷ s) l t = ap₂ (λ b g. m.factor *ℚ b +ℚ g) (along m.variable l.0 t.0) (sum_along s l.1 t.1)

  pub number_along : (z : ℕ) → z < d.count → AllIn d.is_restricted (d.row z).live →
      numbers d v z ≡ (d.row z).constant +ℚ numbers d v c *ℚ factor_of c (d.row z).live
  number_along z h t =
      within_is d w z h v i
      ∙ ap (λ b. (d.row z).constant +ℚ b)
      (sum_along (d.row z).live (w.over_live z h) t ∙ sum_at-times (numbers d v c) (unit c) (d.row z).live
      ∙ ap (λ b. numbers d v c *ℚ b) (sym (factor_of-is c (d.row z).live)))

-- how far the column c goes until the row q is zero
abbrev pub far : Tableau → ℕ → ℕ → ℚ
far d q c = neg_ℚ (d.row q).constant *ℚ inv_ℚ (factor_of c (d.row q).live)

-- ---- the row q and the column c are exchanged, and q is dropped
module _ (d e : Tableau) (w : IsWritten d) (x : IsWritten e) (q c : ℕ) (r : Eliminated d e q c) (f : IsFeasible d) (a : AllIn d.is_restricted (d.row q).live)
    (n : factor_of c (d.row q).live ≡ 0ℚ → ⊥) where
  module _ (v : ℕ → ℚ) (i : Within e v) (zeros : (z : ℕ) → d.is_live z ≡ true → d.is_restricted z ≡ true → (z ≡ c → ⊥) → numbers d v z ≡ 0ℚ) where
    inside : Within d v
    inside = within_back d e w (q ∷ []) [] r.changed v i

    zero_q : numbers d v q ≡ 0ℚ
    zero_q = ap (value_at v) (sym (r.changed.form q r.made)) ∙ i q (r.changed.drops_each q (inl refl))

    column_is : numbers d v c ≡ far d q c
    column_is =
        let k : ℚ = (d.row q).constant in
        let g : ℚ = factor_of c (d.row q).live in
        let t : ℚ = numbers d v c in
        ring (t ∷ []) x0 (x0 ⊗ int (pos 1)) refl ∙ ap (λ b. t *ℚ b) (sym (times_inverse g n))
        ∙ ring (k ∷ g ∷ inv_ℚ g ∷ t ∷ []) (var 3 ⊗ (x1 ⊗ x2)) ((minus x0 ⊕ (x0 ⊕ var 3 ⊗ x1)) ⊗ x2) refl
        ∙ ap (λ b. (neg_ℚ k +ℚ b) *ℚ inv_ℚ g) (sym (number_along d w c v inside zeros q r.made a) ∙ zero_q)
        ∙ ring (k ∷ inv_ℚ g ∷ []) ((minus x0 ⊕ int (pos 0)) ⊗ x1) (minus x0 ⊗ x1) refl

    number_is : (z : ℕ) → d.is_restricted z ≡ true → numbers e v z ≡ (d.row z).constant +ℚ far d q c *ℚ factor_of c (d.row z).live
    number_is z t =
        let h = w.made_restricted z t in
        ap (value_at v) (r.changed.form z h) ∙ number_along d w c v inside zeros z h (f.columns z h t)
        ∙ ap (λ b. (d.row z).constant +ℚ b *ℚ factor_of c (d.row z).live) column_is

  basic_number : (z : ℕ) → d.is_restricted z ≡ true → (e.row z).constant ≡ (d.row z).constant +ℚ far d q c *ℚ factor_of c (d.row z).live
  basic_number z t =
      sym (basic_is e x z (more_made d e w (q ∷ []) [] r.changed z (w.made_restricted z t)))
      ∙ number_is (basic e x).at (basic e x).dropped
      (λ y l k m. ap (value_at (basic e x).at) (sym (r.changed.form y (w.made y l))) ∙ (basic e x).live y (r.others y l m)) z t

  ray_number : (y : ℕ) → e.is_restricted y ≡ false → (z : ℕ) → d.is_restricted z ≡ true
      → numbers e (ray e x 1ℚ y).at z ≡ (d.row z).constant +ℚ far d q c *ℚ factor_of c (d.row z).live
  ray_number y u z t =
      number_is (ray e x 1ℚ y).at (ray e x 1ℚ y).dropped
      (λ g l k m. ap (value_at (ray e x 1ℚ y).at) (sym (r.changed.form g (w.made g l))) ∙ zero g (r.others g l m) (r.changed.restricted_still g k)) z t
    where
      zero : (g : ℕ) → e.is_live g ≡ true → e.is_restricted g ≡ true → numbers e (ray e x 1ℚ y).at g ≡ 0ℚ
      zero g l k =
          (ray e x 1ℚ y).live g l ∙ ap (λ b. 1ℚ *ℚ b) (unit-other y g (λ m. clash (e.is_restricted y) u (subst (λ b. e.is_restricted b ≡ true) (sym m) k)))
          ∙ ring [] (int (pos 1) ⊗ int (pos 0)) (int (pos 0)) refl

  was_restricted : (z : ℕ) → e.is_restricted z ≡ true → d.is_restricted z ≡ true
  was_restricted z t = elim (r.changed.restricted_only z t) [ inl h ↦ absurd h | inr h ↦ h ]

  -- it stays feasible where no restricted quantity is below zero so far along the column
  pub crossing_feasible : ((z : ℕ) → d.is_restricted z ≡ true → IsNotNegative ((d.row z).constant +ℚ far d q c *ℚ factor_of c (d.row z).live)) → HasFeasibleNumbers e
  crossing_feasible high = record {
    constants = λ z h t. subst IsNotNegative (sym (basic_number z (was_restricted z t))) (high z (was_restricted z t));
    no_free_column = λ z h t y u. no_entry (e.row z).constant (factor_of y (e.row z).live)
        (sym (ray_is e x z h 1ℚ y) ∙ ray_number y u z (was_restricted z t) ∙ sym (basic_number z (was_restricted z t)));
  }

-- ---- that is so where no row limits the column
pub unlimited_high : (d : Tableau) (w : IsWritten d) (f : IsFeasible d) (q c : ℕ) → IsUnlimited d c → IsNotNegative (far d q c) → (z : ℕ) → d.is_restricted z ≡ true
    → IsNotNegative ((d.row z).constant +ℚ far d q c *ℚ factor_of c (d.row z).live)
unlimited_high d w f q c o h z t = let m = w.made_restricted z t in nonneg_add (f.constants z m t) (nonneg_mul h (o.rows z m t))

-- ---- and where a feasible tableau is reached in which each other live column is still one, and the row has passed zero
module _ (d p : Tableau) (w : IsWritten d) (x : IsWritten p) (f : IsFeasible d) (g : IsFeasible p) (r : Changed d p [] []) (q c : ℕ) (made : q < d.count)
    (others : (z : ℕ) → d.is_live z ≡ true → (z ≡ c → ⊥) → p.is_live z ≡ true) (a : AllIn d.is_restricted (d.row q).live)
    (n : factor_of c (d.row q).live ≡ 0ℚ → ⊥) (forward : IsNotNegative (far d q c))
    (passed : IsNotNegative ((p.row q).constant *ℚ inv_ℚ (factor_of c (d.row q).live))) where
  abbrev at : ℕ → ℚ
  at = (basic p x).at

  inside_d : Within d at
  inside_d = within_back d p w [] [] r at (basic p x).dropped

  zeros : (z : ℕ) → d.is_live z ≡ true → d.is_restricted z ≡ true → (z ≡ c → ⊥) → numbers d at z ≡ 0ℚ
  zeros z l k m = ap (value_at at) (sym (r.form z (w.made z l))) ∙ (basic p x).live z (others z l m)

  -- how far the column has gone there
  gone : ℚ
  gone = numbers d at c

  number_there : (z : ℕ) → z < d.count → AllIn d.is_restricted (d.row z).live → (p.row z).constant ≡ (d.row z).constant +ℚ gone *ℚ factor_of c (d.row z).live
  unfolding gone
  number_there z h t =
      sym (basic_is p x z (more_made d p w [] [] r z h)) ∙ ap (value_at at) (r.form z h) ∙ number_along d w c at inside_d zeros z h t

  -- that is farther than where the row is zero
  farther : IsNotNegative (gone +ℚ neg_ℚ (far d q c))
  farther =
      let k : ℚ = (d.row q).constant in
      let b : ℚ = factor_of c (d.row q).live in
      subst IsNotNegative
      (ap (λ y. y *ℚ inv_ℚ b) (number_there q made a)
      ∙ ring (k ∷ b ∷ inv_ℚ b ∷ gone ∷ []) ((x0 ⊕ var 3 ⊗ x1) ⊗ x2) (var 3 ⊗ (x1 ⊗ x2) ⊕ minus (minus x0 ⊗ x2)) refl
      ∙ ap (λ y. gone *ℚ y +ℚ neg_ℚ (neg_ℚ k *ℚ inv_ℚ b)) (times_inverse b n)
      ∙ ring (gone ∷ (neg_ℚ k *ℚ inv_ℚ b) ∷ []) (x0 ⊗ int (pos 1) ⊕ minus x1) (x0 ⊕ minus x1) refl)
      passed

  pub passed_high : (z : ℕ) → d.is_restricted z ≡ true → IsNotNegative ((d.row z).constant +ℚ far d q c *ℚ factor_of c (d.row z).live)
  passed_high z t = go (sign (factor_of c (d.row z).live))
    where
      m : z < d.count
      m = w.made_restricted z t

      here : IsNotNegative (d.row z).constant
      here = f.constants z m t

      there : IsNotNegative ((d.row z).constant +ℚ gone *ℚ factor_of c (d.row z).live)
      there = subst IsNotNegative (number_there z m (f.columns z m t)) (g.constants z (more_made d p w [] [] r z m) (r.restricted_still z t))

      go : Sign (factor_of c (d.row z).live) → IsNotNegative ((d.row z).constant +ℚ far d q c *ℚ factor_of c (d.row z).live)
      go (is_pos h) = nonneg_add here (nonneg_mul forward (pos_nonneg h))
      go (sign_of.is_zero h) = nonneg_add here (subst (λ b. IsNotNegative (far d q c *ℚ b)) (sym h) (subst IsNotNegative (ring (far d q c ∷ []) (int (pos 0)) (x0 ⊗ int (pos 0)) refl) nonneg_zero))
      go (is_neg h) =
          subst IsNotNegative
          (ring ((d.row z).constant ∷ gone ∷ far d q c ∷ factor_of c (d.row z).live ∷ []) ((x0 ⊕ x1 ⊗ var 3) ⊕ (x1 ⊕ minus x2) ⊗ minus (var 3)) (x0 ⊕ x2 ⊗ var 3) refl)
          (nonneg_add there (nonneg_mul farther (pos_nonneg h)))
