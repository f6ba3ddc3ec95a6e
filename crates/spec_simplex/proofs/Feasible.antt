-- Exchanges after which restricted rows are feasible still.
use Rattle.std.proofs.Common.{◌≡◌, ℕ, ◌<◌, List, [], ◌∷◌, Bool, true, false, nat_eq, ◌⊎◌, inl, inr, pos, refl, ap, ap₂, sym, subst, ◌∙◌}
use Rattle.spec_numbers.proofs.Tests.{nat_eq-same, nat_eq-other}
use Rattle.spec_numbers.specs.Rational.{ℚ, 0ℚ, 1ℚ, ◌+ℚ◌, ◌*ℚ◌, neg_ℚ, inv_ℚ, IsPositive, IsNotNegative}
use Rattle.spec_numbers.specs.Sums.{Monomial, sum_at, when, unit, factor_of}
use Rattle.spec_numbers.proofs.Ring.{var, int, ◌⊕◌, ◌⊗◌, minus}
use Rattle.spec_numbers.proofs.RationalLemmas.{ring}
use Rattle.spec_numbers.proofs.Sign.{nonneg_add, nonneg_mul, pos_nonneg, nonneg_zero, inv_mul, inv_pos, product_zero}
use Rattle.spec_numbers.proofs.Sums.{sum_at-times, factor_of-is, unit-other}
use Rattle.spec_linear.specs.Form.{value_at}
use Rattle.spec_linear.specs.Solution.{Has}
use Rattle.spec_simplex.specs.Tableau.{Tableau, numbers, Within, AllIn, Chosen, unit_of, IsWritten, IsFeasible, IsUnlimited, Changed, Exchanged, Eliminated, Restored, HasFeasibleNumbers}
use Rattle.spec_simplex.proofs.Standing.{x0, x1, x2, clash}
use Rattle.spec_simplex.proofs.TableauWritten.{same_sum, not_in, within_is, basic, basic_is, ray, ray_is}
use Rattle.spec_simplex.proofs.Steps.{within_back, more_made, one_of}
use Rattle.spec_simplex.proofs.More.{one_constant, one_entry}

-- where two numbers differ by an entry and are equal, the entry is zero
no_entry : (k f : ℚ) → k +ℚ 1ℚ *ℚ f ≡ k → f ≡ 0ℚ
no_entry k f e =
    ring (k ∷ f ∷ []) x1 (minus x0 ⊕ (x0 ⊕ int (pos 1) ⊗ x1)) refl ∙ ap (λ b. neg_ℚ k +ℚ b) e ∙ ring (k ∷ []) (minus x0 ⊕ x0) (int (pos 0)) refl

-- a row over restricted columns stays one
module _ (d e : Tableau) (w : IsWritten d) (x : IsWritten e) (r : Changed d e [] []) (q : ℕ) (h : q < d.count) (a : AllIn d.is_restricted (d.row q).live)
    (f : HasFeasibleNumbers e) where
  one_number : (z : ℕ) → e.is_restricted z ≡ false → (y : ℕ) → d.is_restricted y ≡ true →
      numbers d (ray e x 1ℚ z).at y ≡ numbers d (basic e x).at y
  one_number z n y k =
      let m = w.made_restricted y k in
      let t = more_made d e w [] [] r y m in
      ap (value_at (ray e x 1ℚ z).at) (sym (r.form y m)) ∙ ray_is e x y t 1ℚ z
      ∙ ap (λ b. (e.row y).constant +ℚ 1ℚ *ℚ b) (f.no_free_column y t (r.restricted_still y k) z n)
      ∙ ring ((e.row y).constant ∷ []) (x0 ⊕ int (pos 1) ⊗ int (pos 0)) x0 refl
      ∙ sym (basic_is e x y t) ∙ ap (value_at (basic e x).at) (r.form y m)

  pub restricted_row : (z : ℕ) → e.is_restricted z ≡ false → factor_of z (e.row q).live ≡ 0ℚ
  restricted_row z n =
      let t = more_made d e w [] [] r q h in
      no_entry (e.row q).constant (factor_of z (e.row q).live)
      (sym (ray_is e x q t 1ℚ z) ∙ ap (value_at (ray e x 1ℚ z).at) (r.form q h)
      ∙ within_is d w q h (ray e x 1ℚ z).at (within_back d e w [] [] r (ray e x 1ℚ z).at (ray e x 1ℚ z).dropped)
      ∙ ap (λ b. (d.row q).constant +ℚ b)
      (same_sum d.is_restricted (numbers d (ray e x 1ℚ z).at) (numbers d (basic e x).at) (d.row q).live a (one_number z n))
      ∙ sym (within_is d w q h (basic e x).at (within_back d e w [] [] r (basic e x).at (basic e x).dropped))
      ∙ ap (value_at (basic e x).at) (sym (r.form q h)) ∙ basic_is e x q t)

-- ---- another basis, in which each live column but c stays live
module _ (d e : Tableau) (w : IsWritten d) (x : IsWritten e) (drops restricts : List ℕ) (r : Changed d e drops restricts) (c : ℕ)
    (others : (z : ℕ) → d.is_live z ≡ true → (z ≡ c → ⊥) → e.is_live z ≡ true) (f : IsFeasible d) where
  same : (v : ℕ → ℚ) (z : ℕ) → z < d.count → numbers e v z ≡ numbers d v z
  same v z h = ap (value_at v) (r.form z h)

  there : (z : ℕ) → z < d.count → z < e.count
  there z h = more_made d e w drops restricts r z h

  back : (v : ℕ → ℚ) → Within e v → Within d v
  back v i = within_back d e w drops restricts r v i

  -- ---- the column is unrestricted: restricted rows do not change
  module _ (n : d.is_restricted c ≡ false) where
    stay_live : (s : List Monomial) → AllIn d.is_live s → AllIn d.is_restricted s → AllIn e.is_live s
    stay_live [] a b = tt
    stay_live (m ∷ s) a b =
        (others m.variable a.0 (λ k. clash (d.is_restricted c) n (subst (λ z. d.is_restricted z ≡ true) k b.0)), stay_live s a.1 b.1)

    module _ (z : ℕ) (t : d.is_restricted z ≡ true) where
      z_made : z < d.count
      z_made = w.made_restricted z t

      columns_stay : AllIn e.is_live (d.row z).live
      columns_stay = stay_live (d.row z).live (w.over_live z z_made) (f.columns z z_made t)

      row_stays : (v : ℕ → ℚ) → Within e v → numbers e v z ≡ (d.row z).constant +ℚ sum_at (numbers e v) (d.row z).live
      row_stays v i =
          same v z z_made ∙ within_is d w z z_made v (back v i)
          ∙ ap (λ b. (d.row z).constant +ℚ b)
          (same_sum d.is_live (numbers d v) (numbers e v) (d.row z).live (w.over_live z z_made) (λ y k. sym (same v y (w.made y k))))

      constant_stays : IsNotNegative (e.row z).constant
      constant_stays =
          subst IsNotNegative (one_constant e x z (there z z_made) (d.row z).constant (d.row z).live columns_stay row_stays) (f.constants z z_made t)

      entry_stays : (y : ℕ) → e.is_restricted y ≡ false → factor_of y (e.row z).live ≡ 0ℚ
      entry_stays y k =
          sym (one_entry e x z (there z z_made) (d.row z).constant (d.row z).live columns_stay row_stays y)
          ∙ not_in d.is_restricted y (d.row z).live (f.columns z z_made t) (was_free (d.is_restricted y) refl)
        where
          was_free : (b : Bool) → d.is_restricted y ≡ b → d.is_restricted y ≡ false
          was_free false e = e
          was_free true m = absurd (clash (e.is_restricted y) k (r.restricted_still y m))

  -- ---- an assignment where each restricted column but c is zero
  module _ (v : ℕ → ℚ) (i : Within e v) (zeros : (z : ℕ) → d.is_live z ≡ true → d.is_restricted z ≡ true → (z ≡ c → ⊥) → numbers d v z ≡ 0ℚ) where
    along : (z : ℕ) → d.is_live z ≡ true → d.is_restricted z ≡ true → numbers d v z ≡ numbers d v c *ℚ unit c z
    along z l t = go (nat_eq c z) refl
      where
        go : (b : Bool) → nat_eq c z ≡ b → numbers d v z ≡ numbers d v c *ℚ when b 1ℚ
        go true k = ap (numbers d v) (sym (nat_eq-same c z k)) ∙ ring (numbers d v c ∷ []) x0 (x0 ⊗ int (pos 1)) refl
        go false k = zeros z l t (λ g. nat_eq-other c z k (sym g)) ∙ ring (numbers d v c ∷ []) (int (pos 0)) (x0 ⊗ int (pos 0)) refl

    sum_along : (s : List Monomial) → AllIn d.is_live s → AllIn d.is_restricted s → sum_at (numbers d v) s ≡ sum_at (λ z. numbers d v c *ℚ unit c z) s
    sum_along [] l t = refl
    sum_along (m ∷ s) l t = ap₂ (λ b g. m.factor *ℚ b +ℚ g) (along m.variable l.0 t.0) (sum_along s l.1 t.1)

    number_along : (z : ℕ) → z < d.count → AllIn d.is_restricted (d.row z).live →
        numbers d v z ≡ (d.row z).constant +ℚ numbers d v c *ℚ factor_of c (d.row z).live
    number_along z h t =
        within_is d w z h v (back v i)
        ∙ ap (λ b. (d.row z).constant +ℚ b)
        (sum_along (d.row z).live (w.over_live z h) t ∙ sum_at-times (numbers d v c) (unit c) (d.row z).live
        ∙ ap (λ b. numbers d v c *ℚ b) (sym (factor_of-is c (d.row z).live)))

    -- the row q has the constant zero and is zero there: so is c
    pub column_zero : (q : ℕ) → q < d.count → AllIn d.is_restricted (d.row q).live → (d.row q).constant ≡ 0ℚ → (factor_of c (d.row q).live ≡ 0ℚ → ⊥)
        → numbers d v q ≡ 0ℚ → numbers d v c ≡ 0ℚ
    column_zero q h a k n zero_q =
        let t : ℚ = numbers d v c in
        let g : ℚ = factor_of c (d.row q).live in
        product_zero g t n
        (ring (g ∷ t ∷ []) (x0 ⊗ x1) (int (pos 0) ⊕ x1 ⊗ x0) refl ∙ ap (λ b. b +ℚ t *ℚ g) (sym k) ∙ sym (number_along q h a) ∙ zero_q)

-- ---- another basis, where restricted live columns of the old one are zero at the points whose restricted columns are: then
-- restricted quantities keep their constants
module _ (d e : Tableau) (w : IsWritten d) (x : IsWritten e) (same : (z : ℕ) → z < d.count → e.form z ≡ d.form z) (there : (z : ℕ) → z < d.count → z < e.count)
    (f : IsFeasible d) (flat : (y : ℕ → ℚ) (p : Chosen e y) → ((z : ℕ) → e.is_restricted z ≡ true → y z ≡ 0ℚ)
    → Within d p.at × ((z : ℕ) → d.is_live z ≡ true → d.is_restricted z ≡ true → numbers d p.at z ≡ 0ℚ)) where
  zero_sum : (v : ℕ → ℚ) → ((z : ℕ) → d.is_live z ≡ true → d.is_restricted z ≡ true → numbers d v z ≡ 0ℚ) → (s : List Monomial)
      → AllIn d.is_live s → AllIn d.is_restricted s → sum_at (numbers d v) s ≡ 0ℚ
  zero_sum v o [] a b = refl
  zero_sum v o (m ∷ s) a b =
      ap₂ (λ p q. m.factor *ℚ p +ℚ q) (o m.variable a.0 b.0) (zero_sum v o s a.1 b.1) ∙ ring (m.factor ∷ []) (x0 ⊗ int (pos 0) ⊕ int (pos 0)) (int (pos 0)) refl

  at_point : (y : ℕ → ℚ) (p : Chosen e y) → ((z : ℕ) → e.is_restricted z ≡ true → y z ≡ 0ℚ) → (z : ℕ) → d.is_restricted z ≡ true → numbers e p.at z ≡ (d.row z).constant
  at_point y p o z t =
      let h = w.made_restricted z t in
      let g = flat y p o in
      ap (value_at p.at) (same z h) ∙ within_is d w z h p.at g.0
      ∙ ap (λ b. (d.row z).constant +ℚ b) (zero_sum p.at g.1 (d.row z).live (w.over_live z h) (f.columns z h t))
      ∙ ring ((d.row z).constant ∷ []) (x0 ⊕ int (pos 0)) x0 refl

  pub level_constant : (z : ℕ) → d.is_restricted z ≡ true → (e.row z).constant ≡ (d.row z).constant
  level_constant z t = sym (basic_is e x z (there z (w.made_restricted z t))) ∙ at_point (λ b. 0ℚ) (basic e x) (λ b u. refl) z t

  pub level_sign : (z : ℕ) → d.is_restricted z ≡ true → IsNotNegative (e.row z).constant
  level_sign z t = subst IsNotNegative (sym (level_constant z t)) (f.constants z (w.made_restricted z t) t)

  pub level_entry : (z : ℕ) → d.is_restricted z ≡ true → (y : ℕ) → e.is_restricted y ≡ false → factor_of y (e.row z).live ≡ 0ℚ
  level_entry z t y u =
      no_entry (e.row z).constant (factor_of y (e.row z).live)
      (sym (ray_is e x z (there z (w.made_restricted z t)) 1ℚ y)
      ∙ at_point (λ b. 1ℚ *ℚ unit y b) (ray e x 1ℚ y)
      (λ b m. ap (λ g. 1ℚ *ℚ g) (unit-other y b (λ o. clash (e.is_restricted y) u (subst (λ g. e.is_restricted g ≡ true) (sym o) m)))
      ∙ ring [] (int (pos 1) ⊗ int (pos 0)) (int (pos 0)) refl)
      z t ∙ sym (level_constant z t))

-- ---- a row of the constant zero that is zero at those points
module _ (d e : Tableau) (w : IsWritten d) (x : IsWritten e) (drops restricts : List ℕ) (r : Changed d e drops restricts) (c : ℕ)
    (others : (z : ℕ) → d.is_live z ≡ true → (z ≡ c → ⊥) → e.is_live z ≡ true) (f : IsFeasible d) (q : ℕ) (h : q < d.count)
    (a : AllIn d.is_restricted (d.row q).live) (k : (d.row q).constant ≡ 0ℚ) (n : factor_of c (d.row q).live ≡ 0ℚ → ⊥)
    (zero_q : (y : ℕ → ℚ) (p : Chosen e y) → ((z : ℕ) → e.is_restricted z ≡ true → y z ≡ 0ℚ) → numbers d p.at q ≡ 0ℚ) where
  level_flat : (y : ℕ → ℚ) (p : Chosen e y) → ((z : ℕ) → e.is_restricted z ≡ true → y z ≡ 0ℚ)
      → Within d p.at × ((z : ℕ) → d.is_live z ≡ true → d.is_restricted z ≡ true → numbers d p.at z ≡ 0ℚ)
  level_flat y p o = (within_back d e w drops restricts r p.at p.dropped, λ z l t. go z l t (nat_eq z c) refl)
    where
      others_zero : (z : ℕ) → d.is_live z ≡ true → d.is_restricted z ≡ true → (z ≡ c → ⊥) → numbers d p.at z ≡ 0ℚ
      others_zero z l t m = ap (value_at p.at) (sym (r.form z (w.made z l))) ∙ p.live z (others z l m) ∙ o z (r.restricted_still z t)

      go : (z : ℕ) → d.is_live z ≡ true → d.is_restricted z ≡ true → (b : Bool) → nat_eq z c ≡ b → numbers d p.at z ≡ 0ℚ
      go z l t false m = others_zero z l t (nat_eq-other z c m)
      go z l t true m =
          subst (λ y. numbers d p.at y ≡ 0ℚ) (sym (nat_eq-same z c m))
          (column_zero d e w x drops restricts r c others f p.at p.dropped others_zero q h a k n (zero_q y p o))

-- ---- an exchange
module _ (d e : Tableau) (w : IsWritten d) (x : IsWritten e) (q c : ℕ) (r : Exchanged d e q c (q ∷ [])) (f : IsFeasible d) where
  -- the leaving quantity's row is itself
  itself : (v : ℕ → ℚ) → Within e v → numbers e v q ≡ 0ℚ +ℚ sum_at (numbers e v) (unit_of q)
  itself v i = ring (numbers e v q ∷ []) x0 (int (pos 0) ⊕ (int (pos 1) ⊗ x0 ⊕ int (pos 0))) refl

  q_there : q < e.count
  q_there = there d e w x [] (q ∷ []) r.changed c r.others f q r.made

  own_constant : IsNotNegative (e.row q).constant
  own_constant = subst IsNotNegative (one_constant e x q q_there 0ℚ (unit_of q) (r.leaves, tt) itself) nonneg_zero

  own_entry : (z : ℕ) → e.is_restricted z ≡ false → factor_of z (e.row q).live ≡ 0ℚ
  own_entry z n =
      sym (one_entry e x q q_there 0ℚ (unit_of q) (r.leaves, tt) itself z)
      ∙ not_in e.is_restricted z (unit_of q) (r.changed.restricts_each q (inl refl), tt) n

  -- with such numbers of the quantities that were restricted before
  with_others : ((z : ℕ) → d.is_restricted z ≡ true → IsNotNegative (e.row z).constant)
      → ((z : ℕ) → d.is_restricted z ≡ true → (y : ℕ) → e.is_restricted y ≡ false → factor_of y (e.row z).live ≡ 0ℚ) → HasFeasibleNumbers e
  with_others k g =
      record { constants = λ z h t. constants z (r.changed.restricted_only z t); no_free_column = λ z h t. columns z (r.changed.restricted_only z t) }
    where
      constants : (z : ℕ) → Has z (q ∷ []) ⊎ (d.is_restricted z ≡ true) → IsNotNegative (e.row z).constant
      constants z (inl m) = subst (λ y. IsNotNegative (e.row y).constant) (sym (one_of q z m)) own_constant
      constants z (inr t) = k z t

      columns : (z : ℕ) → Has z (q ∷ []) ⊎ (d.is_restricted z ≡ true) → (y : ℕ) → e.is_restricted y ≡ false → factor_of y (e.row z).live ≡ 0ℚ
      columns z (inl m) y n = subst (λ b. factor_of y (e.row b).live ≡ 0ℚ) (sym (one_of q z m)) (own_entry y n)
      columns z (inr t) y n = g z t y n

  pub free_exchange : d.is_restricted c ≡ false → HasFeasibleNumbers e
  free_exchange n =
      with_others (constant_stays d e w x [] (q ∷ []) r.changed c r.others f n) (entry_stays d e w x [] (q ∷ []) r.changed c r.others f n)

  -- the row has the constant zero and no unrestricted column
  pub level_exchange : AllIn d.is_restricted (d.row q).live → (d.row q).constant ≡ 0ℚ → (factor_of c (d.row q).live ≡ 0ℚ → ⊥) → HasFeasibleNumbers e
  level_exchange a k n = with_others (level_sign d e w x r.changed.form made f flat) (level_entry d e w x r.changed.form made f flat)
    where
      made : (z : ℕ) → z < d.count → z < e.count
      made z h = more_made d e w [] (q ∷ []) r.changed z h

      flat : (y : ℕ → ℚ) (p : Chosen e y) → ((z : ℕ) → e.is_restricted z ≡ true → y z ≡ 0ℚ)
          → Within d p.at × ((z : ℕ) → d.is_live z ≡ true → d.is_restricted z ≡ true → numbers d p.at z ≡ 0ℚ)
      flat =
          level_flat d e w x [] (q ∷ []) r.changed c r.others f q r.made a k n
          (λ y p o. ap (value_at p.at) (sym (r.changed.form q r.made)) ∙ p.live q r.leaves ∙ o q (r.changed.restricts_each q (inl refl)))

  -- ---- no restricted row falls along the column, and the leaving row rises along it
  module _ (o : IsUnlimited d c) (p : IsPositive (factor_of c (d.row q).live)) (low : IsNotNegative (neg_ℚ (d.row q).constant))
      (a : AllIn d.is_restricted (d.row q).live) where
    -- how far the column goes where the leaving quantity becomes zero
    far : ℚ
    far = neg_ℚ (d.row q).constant *ℚ inv_ℚ (factor_of c (d.row q).live)

    far_not_negative : IsNotNegative far
    unfolding far
    far_not_negative = nonneg_mul low (pos_nonneg (inv_pos p))

    -- an assignment where the leaving quantity is zero, and each other restricted column is
    module _ (v : ℕ → ℚ) (i : Within e v) (zero_q : numbers d v q ≡ 0ℚ)
        (zeros : (z : ℕ) → d.is_live z ≡ true → d.is_restricted z ≡ true → (z ≡ c → ⊥) → numbers d v z ≡ 0ℚ) where
      number_here : (z : ℕ) → z < d.count → AllIn d.is_restricted (d.row z).live →
          numbers d v z ≡ (d.row z).constant +ℚ numbers d v c *ℚ factor_of c (d.row z).live
      number_here = number_along d e w x [] (q ∷ []) r.changed c r.others f v i zeros

      column_is : numbers d v c ≡ far
      unfolding far
      column_is =
          let k : ℚ = (d.row q).constant in
          let g : ℚ = factor_of c (d.row q).live in
          let t : ℚ = numbers d v c in
          ring (t ∷ []) x0 (x0 ⊗ int (pos 1)) refl ∙ ap (λ b. t *ℚ b) (sym (inv_mul p))
          ∙ ring (k ∷ g ∷ inv_ℚ g ∷ t ∷ []) (var 3 ⊗ (x1 ⊗ x2)) ((minus x0 ⊕ (x0 ⊕ var 3 ⊗ x1)) ⊗ x2) refl
          ∙ ap (λ b. (neg_ℚ k +ℚ b) *ℚ inv_ℚ g) (sym (number_here q r.made a) ∙ zero_q)
          ∙ ring (k ∷ inv_ℚ g ∷ []) ((minus x0 ⊕ int (pos 0)) ⊗ x1) (minus x0 ⊗ x1) refl

      number_is : (z : ℕ) → d.is_restricted z ≡ true → numbers e v z ≡ (d.row z).constant +ℚ far *ℚ factor_of c (d.row z).live
      number_is z t =
          let h = w.made_restricted z t in
          ap (value_at v) (r.changed.form z h) ∙ number_here z h (f.columns z h t) ∙ ap (λ b. (d.row z).constant +ℚ b *ℚ factor_of c (d.row z).live) column_is

    basic_number : (z : ℕ) → d.is_restricted z ≡ true → (e.row z).constant ≡ (d.row z).constant +ℚ far *ℚ factor_of c (d.row z).live
    basic_number z t =
        sym (basic_is e x z (more_made d e w [] (q ∷ []) r.changed z (w.made_restricted z t)))
        ∙ number_is (basic e x).at (basic e x).dropped (ap (value_at (basic e x).at) (sym (r.changed.form q r.made)) ∙ (basic e x).live q r.leaves)
        (λ y l k n. ap (value_at (basic e x).at) (sym (r.changed.form y (w.made y l))) ∙ (basic e x).live y (r.others y l n)) z t

    ray_number : (y : ℕ) → e.is_restricted y ≡ false → (z : ℕ) → d.is_restricted z ≡ true
        → numbers e (ray e x 1ℚ y).at z ≡ (d.row z).constant +ℚ far *ℚ factor_of c (d.row z).live
    ray_number y n z t =
        number_is (ray e x 1ℚ y).at (ray e x 1ℚ y).dropped (ap (value_at (ray e x 1ℚ y).at) (sym (r.changed.form q r.made)) ∙ zero q r.leaves (r.changed.restricts_each q (inl refl)))
        (λ g l k m. ap (value_at (ray e x 1ℚ y).at) (sym (r.changed.form g (w.made g l))) ∙ zero g (r.others g l m) (r.changed.restricted_still g k)) z t
      where
        zero : (g : ℕ) → e.is_live g ≡ true → e.is_restricted g ≡ true → numbers e (ray e x 1ℚ y).at g ≡ 0ℚ
        zero g l k =
            (ray e x 1ℚ y).live g l ∙ ap (λ b. 1ℚ *ℚ b) (unit-other y g (λ m. clash (e.is_restricted y) n (subst (λ b. e.is_restricted b ≡ true) (sym m) k)))
            ∙ ring [] (int (pos 1) ⊗ int (pos 0)) (int (pos 0)) refl

    pub unlimited_exchange : HasFeasibleNumbers e
    unlimited_exchange =
        with_others
        (λ z t. let h = w.made_restricted z t in
        subst IsNotNegative (sym (basic_number z t)) (nonneg_add (f.constants z h t) (nonneg_mul far_not_negative (o.rows z h t))))
        (λ z t y n. no_entry (e.row z).constant (factor_of y (e.row z).live)
        (sym (ray_is e x z (more_made d e w [] (q ∷ []) r.changed z (w.made_restricted z t)) 1ℚ y) ∙ ray_number y n z t ∙ sym (basic_number z t)))

-- ---- an exchange after which the leaving quantity is dropped
module _ (d e : Tableau) (w : IsWritten d) (x : IsWritten e) (q c : ℕ) (r : Eliminated d e q c) (f : IsFeasible d) where
  was_restricted : (z : ℕ) → e.is_restricted z ≡ true → d.is_restricted z ≡ true
  was_restricted z t = elim (r.changed.restricted_only z t) [ inl h ↦ absurd h | inr h ↦ h ]

  -- an unrestricted column enters
  pub free_elimination : d.is_restricted c ≡ false → HasFeasibleNumbers e
  free_elimination n = record {
    constants = λ z h t. constant_stays d e w x (q ∷ []) [] r.changed c r.others f n z (was_restricted z t);
    no_free_column = λ z h t. entry_stays d e w x (q ∷ []) [] r.changed c r.others f n z (was_restricted z t);
  }

  -- the row has the constant zero and no unrestricted column
  pub level_elimination : AllIn d.is_restricted (d.row q).live → (d.row q).constant ≡ 0ℚ → (factor_of c (d.row q).live ≡ 0ℚ → ⊥) → HasFeasibleNumbers e
  level_elimination a k n = record {
    constants = λ z h t. level_sign d e w x r.changed.form made f flat z (was_restricted z t);
    no_free_column = λ z h t. level_entry d e w x r.changed.form made f flat z (was_restricted z t);
  }
    where
      made : (z : ℕ) → z < d.count → z < e.count
      made z h = more_made d e w (q ∷ []) [] r.changed z h

      flat : (y : ℕ → ℚ) (p : Chosen e y) → ((z : ℕ) → e.is_restricted z ≡ true → y z ≡ 0ℚ)
          → Within d p.at × ((z : ℕ) → d.is_live z ≡ true → d.is_restricted z ≡ true → numbers d p.at z ≡ 0ℚ)
      flat =
          level_flat d e w x (q ∷ []) [] r.changed c r.others f q r.made a k n
          (λ y p o. ap (value_at p.at) (sym (r.changed.form q r.made)) ∙ p.dropped q (r.changed.drops_each q (inl refl)))

-- ---- columns dropped
pub dropping : (d e : Tableau) → IsWritten d → IsWritten e → (drops : List ℕ) → Changed d e drops [] → ((z : ℕ) → d.is_live z ≡ true → (e.is_live z ≡ true) ⊎ (e.is_dropped z ≡ true))
    → IsFeasible d → HasFeasibleNumbers e
dropping d e w x drops r stay f = record {
  constants = λ z h t. level_sign d e w x r.form made f flat z (was_restricted z t);
  no_free_column = λ z h t. level_entry d e w x r.form made f flat z (was_restricted z t);
}
  where
    made : (z : ℕ) → z < d.count → z < e.count
    made z h = more_made d e w drops [] r z h

    was_restricted : (z : ℕ) → e.is_restricted z ≡ true → d.is_restricted z ≡ true
    was_restricted z t = elim (r.restricted_only z t) [ inl h ↦ absurd h | inr h ↦ h ]

    flat : (y : ℕ → ℚ) (p : Chosen e y) → ((z : ℕ) → e.is_restricted z ≡ true → y z ≡ 0ℚ)
        → Within d p.at × ((z : ℕ) → d.is_live z ≡ true → d.is_restricted z ≡ true → numbers d p.at z ≡ 0ℚ)
    flat y p o = (
      within_back d e w drops [] r p.at p.dropped,
      λ z l t. ap (value_at p.at) (sym (r.form z (w.made z l)))
          ∙ elim (stay z l) [ inl m ↦ p.live z m ∙ o z (r.restricted_still z t) | inr m ↦ p.dropped z m ],
    )

-- ---- restricted columns restored
pub restoring : (d e : Tableau) → IsWritten d → IsWritten e → Restored d e → ((z : ℕ) → d.is_live z ≡ true → e.is_live z ≡ true)
    → ((z : ℕ) → d.is_dropped z ≡ true → (e.is_dropped z ≡ true) ⊎ ((e.is_live z ≡ true) × (d.is_restricted z ≡ true)))
    → IsFeasible d → HasFeasibleNumbers e
restoring d e w x r live back f = record {
  constants = λ z h t. level_sign d e w x r.form made f flat z (sym (r.is_restricted z) ∙ t);
  no_free_column = λ z h t. level_entry d e w x r.form made f flat z (sym (r.is_restricted z) ∙ t);
}
  where
    made : (z : ℕ) → z < d.count → z < e.count
    made z h = subst (λ n. z < n) (sym r.count) h

    flat : (y : ℕ → ℚ) (p : Chosen e y) → ((z : ℕ) → e.is_restricted z ≡ true → y z ≡ 0ℚ)
        → Within d p.at × ((z : ℕ) → d.is_live z ≡ true → d.is_restricted z ≡ true → numbers d p.at z ≡ 0ℚ)
    flat y p o = (
      λ z m. ap (value_at p.at) (sym (r.form z (w.made_dropped z m)))
          ∙ elim (back z m) [ inl h ↦ p.dropped z h | inr h ↦ p.live z h.0 ∙ o z (r.is_restricted z ∙ h.1) ],
      λ z l t. ap (value_at p.at) (sym (r.form z (w.made z l))) ∙ p.live z (live z l) ∙ o z (r.is_restricted z ∙ t),
    )
