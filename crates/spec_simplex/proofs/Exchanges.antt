-- One exchange of the rule: the value does not fall, the dictionary stays feasible, and where the value stays the basic
-- solution stays.
use Rattle.std.proofs.Common.{◌≡◌, ℕ, [], ◌∷◌, Bool, true, false, nat_eq, pos, arith, refl, ap, ap₂, sym, subst, ◌∙◌, ◌⊎◌, inl, inr}
use Rattle.spec_numbers.specs.Rational.{ℚ, 0ℚ, 1ℚ, ◌+ℚ◌, ◌*ℚ◌, neg_ℚ, ◌-ℚ◌, inv_ℚ, IsPositive, IsNotNegative}
use Rattle.spec_numbers.proofs.Ring.{var, int, ◌⊕◌, ◌⊗◌, minus}
use Rattle.spec_numbers.proofs.RationalLemmas.{ring}
use Rattle.spec_numbers.proofs.Sign.{nonneg_add, nonneg_mul, pos_nonneg, not_pos_zero, nonneg_zero, Sign, is_zero, is_pos, is_neg, sign, inv_mul, inv_pos, product_zero}
use Rattle.spec_simplex.specs.Dictionary.{Dictionary, IsFeasible, pick, ray, basic_solution, sum_below}
use Rattle.spec_simplex.specs.Rule.{Raises, Limits, IsDue, Exchanged, ratio}
use Rattle.spec_simplex.proofs.Sums.{sum_none, sum_only, sum_difference}
use Rattle.spec_simplex.proofs.Solutions.{Writes, true_not_false, pick_true, pick_false}
use Rattle.spec_numbers.proofs.Tests.{nat_eq-same, nat_eq-self, nat_eq-other, nat_eq-apart}

-- ---- one dictionary
module _ (size : ℕ) (S : (ℕ → ℚ) → ℚ → Type 0) (d : Dictionary) (w : Writes size S d) where
  pub row_is_no_column : (q c : ℕ) → d.is_row q ≡ true → d.is_column c ≡ true → q ≡ c → ⊥
  row_is_no_column q c h k e = true_not_false (d.is_row c) (subst (λ z. d.is_row z ≡ true) e h) (w.apart c k)

  pub coefficient_at : (c : ℕ) → (d.coefficient c ≡ 0ℚ → ⊥) → d.is_column c ≡ true
  coefficient_at c n = go (d.is_column c) refl
    where
      go : (b : Bool) → d.is_column c ≡ b → d.is_column c ≡ true
      go true e = e
      go false e = absurd (n (w.no_other_coefficient c e))

  -- where the columns are zero, the value and the rows are constants
  pub at_zero_columns : (x : ℕ → ℚ) (z : ℚ) → S x z → ((c : ℕ) → d.is_column c ≡ true → x c ≡ 0ℚ) → (z ≡ d.value) × ((q : ℕ) → d.is_row q ≡ true → x q ≡ d.constant q)
  at_zero_columns x z s h = (
    w.asked x z s ∙ only d.value _ (sum_none size _ (λ c _. term d.coefficient (λ c e. w.no_other_coefficient c e) c (d.is_column c) refl)),
    λ q e. w.rows x z s q e ∙ only (d.constant q) _ (sum_none size _ (λ c _. term (d.entry q) (λ c e. w.no_other_entry q c e) c (d.is_column c) refl)),
  )
    where
      only : (k s : ℚ) → s ≡ 0ℚ → k +ℚ s ≡ k
      only k s e = ap (λ y. k +ℚ y) e ∙ ring (k ∷ []) (var 0 ⊕ int (pos 0)) (var 0) refl

      term : (a : ℕ → ℚ) → ((c : ℕ) → d.is_column c ≡ false → a c ≡ 0ℚ) → (c : ℕ) (b : Bool) → d.is_column c ≡ b → a c *ℚ x c ≡ 0ℚ
      term a n c true e = ap (λ y. a c *ℚ y) (h c e) ∙ ring (a c ∷ []) (var 0 ⊗ int (pos 0)) (int (pos 0)) refl
      term a n c false e = ap (λ y. y *ℚ x c) (n c e) ∙ ring (x c ∷ []) (int (pos 0) ⊗ var 0) (int (pos 0)) refl

  pub ray_at_zero : (c q : ℕ) → d.is_column c ≡ true → ray d c 0ℚ q ≡ basic_solution d q
  ray_at_zero c q h = go (nat_eq q c) refl (d.is_row q) refl
    where
      go : (b : Bool) → nat_eq q c ≡ b → (k : Bool) → d.is_row q ≡ k → pick b 0ℚ (pick k (d.constant q +ℚ d.entry q c *ℚ 0ℚ) 0ℚ) ≡ pick k (d.constant q) 0ℚ
      go true e true f = absurd (row_is_no_column q c f h (nat_eq-same q c e))
      go true e false f = refl
      go false e true f = ring (d.constant q ∷ d.entry q c ∷ []) (var 0 ⊕ var 1 ⊗ int (pos 0)) (var 0) refl
      go false e false f = refl

  -- a ray's points at 1 and at 0: how each quantity rises with the column
  abbrev pub rise : ℕ → ℕ → ℚ
  rise c q = ray d c 1ℚ q -ℚ ray d c 0ℚ q

  pub rise_of_column : (c : ℕ) → rise c c ≡ 1ℚ
  rise_of_column c =
      ap₂ (λ x y. x -ℚ y) (pick_true (nat_eq c c) 1ℚ _ (nat_eq-self c)) (pick_true (nat_eq c c) 0ℚ _ (nat_eq-self c))
      ∙ ring [] (int (pos 1) ⊕ minus (int (pos 0))) (int (pos 1)) refl

  pub rise_of_row : (c q : ℕ) → (q ≡ c → ⊥) → d.is_row q ≡ true → rise c q ≡ d.entry q c
  rise_of_row c q n h =
      ap₂ (λ x y. x -ℚ y)
      (pick_false (nat_eq q c) 1ℚ _ (nat_eq-apart q c n) ∙ pick_true (d.is_row q) _ 0ℚ h)
      (pick_false (nat_eq q c) 0ℚ _ (nat_eq-apart q c n) ∙ pick_true (d.is_row q) _ 0ℚ h)
      ∙ ring (d.constant q ∷ d.entry q c ∷ []) (var 0 ⊕ var 1 ⊗ int (pos 1) ⊕ minus (var 0 ⊕ var 1 ⊗ int (pos 0))) (var 1) refl

  pub rise_of_other : (c q : ℕ) → (q ≡ c → ⊥) → d.is_row q ≡ false → rise c q ≡ 0ℚ
  rise_of_other c q n h =
      ap₂ (λ x y. x -ℚ y)
      (pick_false (nat_eq q c) 1ℚ _ (nat_eq-apart q c n) ∙ pick_false (d.is_row q) _ 0ℚ h)
      (pick_false (nat_eq q c) 0ℚ _ (nat_eq-apart q c n) ∙ pick_false (d.is_row q) _ 0ℚ h)
      ∙ ring [] (int (pos 0) ⊕ minus (int (pos 0))) (int (pos 0)) refl

-- ---- the rise along a column of d, by another dictionary of the same solutions
module _ (size : ℕ) (S : (ℕ → ℚ) → ℚ → Type 0) (d e : Dictionary) (wd : Writes size S d) (we : Writes size S e) (c : ℕ) (h : d.is_column c ≡ true) where
  differ : (k s1 s0 : ℚ) → (k +ℚ s1) -ℚ (k +ℚ s0) ≡ s1 -ℚ s0
  differ k s1 s0 = ring (k ∷ s1 ∷ s0 ∷ []) (var 0 ⊕ var 1 ⊕ minus (var 0 ⊕ var 2)) (var 1 ⊕ minus (var 2)) refl

  pub coefficient_by : d.coefficient c ≡ sum_below size (λ q. e.coefficient q *ℚ rise size S d wd c q)
  coefficient_by =
      ring (d.value ∷ d.coefficient c ∷ []) (var 1) (var 0 ⊕ var 1 ⊗ int (pos 1) ⊕ minus (var 0 ⊕ var 1 ⊗ int (pos 0))) refl
      ∙ ap₂ (λ x y. x -ℚ y) (we.asked _ _ (wd.rays c h 1ℚ)) (we.asked _ _ (wd.rays c h 0ℚ))
      ∙ differ e.value _ _
      ∙ sum_difference size e.coefficient (ray d c 1ℚ) (ray d c 0ℚ)

  pub rise_by : (q : ℕ) → e.is_row q ≡ true → rise size S d wd c q ≡ sum_below size (λ j. e.entry q j *ℚ rise size S d wd c j)
  rise_by q k =
      ap₂ (λ x y. x -ℚ y) (we.rows _ _ (wd.rays c h 1ℚ) q k) (we.rows _ _ (wd.rays c h 0ℚ) q k)
      ∙ differ (e.constant q) _ _
      ∙ sum_difference size (e.entry q) (ray d c 1ℚ) (ray d c 0ℚ)

-- ---- one exchange
module _ (size : ℕ) (S : (ℕ → ℚ) → ℚ → Type 0) (restricted : ℕ → Bool) (d e : Dictionary) (c r : ℕ) (wd : Writes size S d) (we : Writes size S e) (f : IsFeasible restricted d) (due : IsDue restricted d c r) (ex : Exchanged d c r e) where
  raises : Raises restricted d c
  raises = due.enters.raises

  limits : Limits restricted d c r
  limits = due.leaves.limits

  -- how far the column rises
  length_of : ℚ
  length_of = d.constant r *ℚ inv_ℚ (neg_ℚ (d.entry r c))

  length_not_negative : IsNotNegative length_of
  unfolding length_of
  length_not_negative = nonneg_mul (f.constants r limits.row limits.flag) (pos_nonneg (inv_pos limits.falls))

  -- the row is 0 there
  row_there : d.constant r +ℚ d.entry r c *ℚ length_of ≡ 0ℚ
  unfolding length_of
  row_there =
      ring (d.constant r ∷ d.entry r c ∷ inv_ℚ (neg_ℚ (d.entry r c)) ∷ []) (var 0 ⊕ var 1 ⊗ (var 0 ⊗ var 2)) (var 0 ⊕ minus (var 0 ⊗ (minus (var 1) ⊗ var 2))) refl
      ∙ ap (λ w. d.constant r -ℚ d.constant r *ℚ w) (inv_mul limits.falls)
      ∙ ring (d.constant r ∷ []) (var 0 ⊕ minus (var 0 ⊗ int (pos 1))) (int (pos 0)) refl

  ray_there : (q : ℕ) → e.is_row q ≡ false → ray d c length_of q ≡ 0ℚ
  ray_there q h = go (nat_eq q c) refl (nat_eq q r) refl
    where
      go : (b : Bool) → nat_eq q c ≡ b → (k : Bool) → nat_eq q r ≡ k → pick b length_of (pick (d.is_row q) (d.constant q +ℚ d.entry q c *ℚ length_of) 0ℚ) ≡ 0ℚ
      go true g k i = absurd (true_not_false (e.is_row q) (subst (λ z. e.is_row z ≡ true) (sym (nat_eq-same q c g)) ex.row) h)
      go false g true i = subst (λ z. pick (d.is_row z) (d.constant z +ℚ d.entry z c *ℚ length_of) 0ℚ ≡ 0ℚ) (sym (nat_eq-same q r i)) (pick_true (d.is_row r) _ 0ℚ limits.row ∙ row_there)
      go false g false i = pick_false (d.is_row q) _ 0ℚ (sym (ex.other_rows q (nat_eq-other q c g) (nat_eq-other q r i)) ∙ h)

  -- that point is the basic solution of e
  there : (d.value +ℚ d.coefficient c *ℚ length_of ≡ e.value) × ((q : ℕ) → e.is_row q ≡ true → ray d c length_of q ≡ e.constant q)
  there = at_zero_columns size S e we _ _ (wd.rays c raises.column length_of) (λ q h. ray_there q (we.apart q h))

  pub value_grows : IsNotNegative (e.value -ℚ d.value)
  value_grows =
      subst IsNotNegative (ring (d.value ∷ d.coefficient c ∷ length_of ∷ []) (var 1 ⊗ var 2) (var 0 ⊕ var 1 ⊗ var 2 ⊕ minus (var 0)) refl ∙ ap (λ w. w -ℚ d.value) there.0)
      (nonneg_mul (pos_nonneg raises.coefficient) length_not_negative)

  length_zero : e.value ≡ d.value → length_of ≡ 0ℚ
  length_zero h =
      product_zero (d.coefficient c) length_of (λ z. not_pos_zero (subst IsPositive z raises.coefficient))
      (ring (d.value ∷ d.coefficient c ∷ length_of ∷ []) (var 1 ⊗ var 2) (var 0 ⊕ var 1 ⊗ var 2 ⊕ minus (var 0)) refl
      ∙ ap (λ w. w -ℚ d.value) (there.0 ∙ h) ∙ ring (d.value ∷ []) (var 0 ⊕ minus (var 0)) (int (pos 0)) refl)

  pub ratio_zero : e.value ≡ d.value → ratio d c r ≡ 0ℚ
  unfolding length_of
  ratio_zero h = length_zero h

  -- where the value stays, the basic solution stays
  pub point_stays : e.value ≡ d.value → (q : ℕ) → basic_solution e q ≡ basic_solution d q
  point_stays h q = go (e.is_row q) refl
    where
      at_zero : (r : ℕ) → ray d c length_of r ≡ basic_solution d r
      at_zero r = ap (λ y. ray d c y r) (length_zero h) ∙ ray_at_zero size S d wd c r raises.column

      go : (k : Bool) → e.is_row q ≡ k → pick k (e.constant q) 0ℚ ≡ basic_solution d q
      go true g = sym (there.1 q g) ∙ at_zero q
      go false g = sym (ray_there q g) ∙ at_zero q

  -- ---- feasibility
  -- a row that limits the column is not below zero there
  limited_row : (q : ℕ) → Limits restricted d c q → IsNotNegative (d.constant q +ℚ d.entry q c *ℚ length_of)
  unfolding length_of
  limited_row q l =
      subst IsNotNegative
      (ring (d.constant q ∷ inv_ℚ (neg_ℚ (d.entry q c)) ∷ neg_ℚ (d.entry q c) ∷ length_of ∷ [])
      (var 2 ⊗ (var 0 ⊗ var 1 ⊕ minus (var 3))) (var 0 ⊗ (var 2 ⊗ var 1) ⊕ minus (var 2 ⊗ var 3)) refl
      ∙ ap (λ w. d.constant q *ℚ w -ℚ neg_ℚ (d.entry q c) *ℚ length_of) (inv_mul l.falls)
      ∙ ring (d.constant q ∷ d.entry q c ∷ length_of ∷ []) (var 0 ⊗ int (pos 1) ⊕ minus (minus (var 1) ⊗ var 2)) (var 0 ⊕ var 1 ⊗ var 2) refl)
      (nonneg_mul (pos_nonneg l.falls) (due.leaves.least_ratio q l).gap)

  -- each restricted quantity is not below zero there
  ray_obeys : (q : ℕ) → restricted q ≡ true → IsNotNegative (ray d c length_of q)
  ray_obeys q g = go (nat_eq q c) (d.is_row q) refl
    where
      at_row : d.is_row q ≡ true → Sign (neg_ℚ (d.entry q c)) → IsNotNegative (d.constant q +ℚ d.entry q c *ℚ length_of)
      at_row h (is_zero z) =
          subst IsNotNegative
          (ring (d.constant q ∷ length_of ∷ []) (var 0) (var 0 ⊕ minus (int (pos 0)) ⊗ var 1) refl
          ∙ ap (λ w. d.constant q +ℚ neg_ℚ w *ℚ length_of) (sym z)
          ∙ ring (d.constant q ∷ d.entry q c ∷ length_of ∷ []) (var 0 ⊕ minus (minus (var 1)) ⊗ var 2) (var 0 ⊕ var 1 ⊗ var 2) refl)
          (f.constants q h g)
      at_row h (is_neg p) =
          nonneg_add (f.constants q h g)
          (subst (λ w. IsNotNegative (w *ℚ length_of)) (ring (d.entry q c ∷ []) (minus (minus (var 0))) (var 0) refl) (nonneg_mul (pos_nonneg p) length_not_negative))
      at_row h (is_pos p) = limited_row q (record { row = h; flag = g; falls = p })

      go : (b : Bool) (k : Bool) → d.is_row q ≡ k → IsNotNegative (pick b length_of (pick k (d.constant q +ℚ d.entry q c *ℚ length_of) 0ℚ))
      go true k e = length_not_negative
      go false true e = at_row e (sign (neg_ℚ (d.entry q c)))
      go false false e = nonneg_zero

  -- a column of e that is not restricted: nothing restricted rises with it
  module _ (j : ℕ) (col : e.is_column j ≡ true) (free : restricted j ≡ false) where
    not_flagged : (q : ℕ) → restricted q ≡ true → q ≡ j → ⊥
    not_flagged q h g = true_not_false (restricted j) (subst (λ z. restricted z ≡ true) g h) free

    not_entering : j ≡ c → ⊥
    not_entering g = not_flagged c raises.flag (sym g)

    was_column : d.is_column j ≡ true
    was_column = sym (ex.other_columns j not_entering (λ g. not_flagged r limits.flag (sym g))) ∙ col

    -- a column of d but the entering one and j does not rise
    still : (q : ℕ) → d.is_column q ≡ true → (q ≡ c → ⊥) → (q ≡ j → ⊥) → rise size S e we j q ≡ 0ℚ
    still q h n m = rise_of_other size S e we j q m (ex.other_rows q n (λ g. row_is_no_column size S d wd r q limits.row h (sym g)) ∙ wd.apart q h)

    -- in a restricted row of d only the entering column may rise
    alone : (q : ℕ) → d.is_row q ≡ true → restricted q ≡ true → rise size S e we j q ≡ d.entry q c *ℚ rise size S e we j c
    alone q h g =
        rise_by size S e d we wd j col q h
        ∙ sum_only size (λ i. d.entry q i *ℚ rise size S e we j i) c (wd.columns_below c raises.column) (λ i n. term i n (d.is_column i) refl)
      where
        term : (i : ℕ) → (i ≡ c → ⊥) → (b : Bool) → d.is_column i ≡ b → d.entry q i *ℚ rise size S e we j i ≡ 0ℚ
        term i n false k = ap (λ y. y *ℚ rise size S e we j i) (wd.no_other_entry q i k) ∙ ring (rise size S e we j i ∷ []) (int (pos 0) ⊗ var 0) (int (pos 0)) refl
        term i n true k = at (equal i j)
          where
            equal : (x y : ℕ) → (x ≡ y) ⊎ (x ≡ y → ⊥)
            equal x y = grind arith

            at : (i ≡ j) ⊎ (i ≡ j → ⊥) → d.entry q i *ℚ rise size S e we j i ≡ 0ℚ
            at (inl z) = ap (λ y. y *ℚ rise size S e we j i) (ap (d.entry q) z ∙ f.no_free_column q j h g was_column free) ∙ ring (rise size S e we j i ∷ []) (int (pos 0) ⊗ var 0) (int (pos 0)) refl
            at (inr m) = ap (λ y. d.entry q i *ℚ y) (still i k n m) ∙ ring (d.entry q i ∷ []) (var 0 ⊗ int (pos 0)) (int (pos 0)) refl

    entering_still : rise size S e we j c ≡ 0ℚ
    entering_still =
        product_zero (d.entry r c) (rise size S e we j c)
        (λ z. not_pos_zero (subst IsPositive (ap neg_ℚ z ∙ ring [] (minus (int (pos 0))) (int (pos 0)) refl) limits.falls))
        (sym (alone r limits.row limits.flag) ∙ rise_of_other size S e we j r (not_flagged r limits.flag) (we.apart r ex.column))

    nothing_rises : (q : ℕ) → e.is_row q ≡ true → restricted q ≡ true → e.entry q j ≡ 0ℚ
    nothing_rises q h g = sym (rise_of_row size S e we j q (not_flagged q g) h) ∙ by (equal q c)
      where
        equal : (x y : ℕ) → (x ≡ y) ⊎ (x ≡ y → ⊥)
        equal x y = grind arith

        by : (q ≡ c) ⊎ (q ≡ c → ⊥) → rise size S e we j q ≡ 0ℚ
        by (inl z) = ap (rise size S e we j) z ∙ entering_still
        by (inr n) =
            alone q (sym (ex.other_rows q n (λ z. row_is_no_column size S e we q r h ex.column z)) ∙ h) g
            ∙ ap (λ y. d.entry q c *ℚ y) entering_still ∙ ring (d.entry q c ∷ []) (var 0 ⊗ int (pos 0)) (int (pos 0)) refl

  pub feasible_after : IsFeasible restricted e
  feasible_after = record {
    constants = λ q h g. subst IsNotNegative (there.1 q h) (ray_obeys q g);
    no_free_column = λ q j h g col free. nothing_rises j col free q h g;
  }
