-- Exchanges by the rule never come back to the same rows.
use Rattle.std.proofs.Common.{◌≡◌, ℕ, zero, suc, ◌+◌, ◌-◌, ◌<◌, ◌≤◌, [], ◌∷◌, Bool, true, false, pos, arith, refl, ap, sym, subst, ◌∙◌, ◌⊎◌, inl, inr}
use Rattle.spec_numbers.specs.Rational.{ℚ, 0ℚ, 1ℚ, ◌+ℚ◌, ◌*ℚ◌, neg_ℚ, ◌-ℚ◌, inv_ℚ, IsPositive, IsNotNegative}
use Rattle.spec_numbers.proofs.Ring.{var, int, ◌⊕◌, ◌⊗◌, minus}
use Rattle.spec_numbers.proofs.RationalLemmas.{ring}
use Rattle.spec_numbers.proofs.Sign.{nonneg_add, nonneg_mul, pos_nonneg, not_pos_zero, nonneg_zero, Sign, is_zero, is_pos, is_neg, sign, not_both}
use Rattle.spec_simplex.specs.Dictionary.{Dictionary, IsFeasible, basic_solution}
use Rattle.spec_simplex.specs.Rule.{Raises, Limits, IsDue, Exchanged, ratio}
use Rattle.spec_simplex.proofs.Sums.{equal_or_not, some_positive}
use Rattle.spec_simplex.proofs.Solutions.{Writes, true_not_false, pick_true, pick_false}
use Rattle.spec_simplex.proofs.Exchanges.{row_is_no_column, coefficient_at, at_zero_columns, rise, rise_of_column, rise_of_row, rise_of_other, coefficient_by, value_grows, ratio_zero, point_stays}

pub record Step (restricted : ℕ → Bool) (d e : Dictionary) (c r : ℕ) : Type 0 where
  pub feasible : IsFeasible restricted d
  pub due : IsDue restricted d c r
  pub exchanged : Exchanged d c r e

-- ---- differences
nonneg_self : (a : ℚ) → IsNotNegative (a -ℚ a)
nonneg_self a = subst IsNotNegative (ring (a ∷ []) (int (pos 0)) (var 0 ⊕ minus (var 0)) refl) nonneg_zero

nonneg_chain : (a b c : ℚ) → IsNotNegative (b -ℚ a) → IsNotNegative (c -ℚ b) → IsNotNegative (c -ℚ a)
nonneg_chain a b c h k = subst IsNotNegative (ring (a ∷ b ∷ c ∷ []) (var 1 ⊕ minus (var 0) ⊕ (var 2 ⊕ minus (var 1))) (var 2 ⊕ minus (var 0)) refl) (nonneg_add h k)

nonneg_same : (a b : ℚ) → IsNotNegative (a -ℚ b) → IsNotNegative (b -ℚ a) → a ≡ b
nonneg_same a b h k = go (sign (a -ℚ b))
  where
    go : Sign (a -ℚ b) → a ≡ b
    go (is_zero e) = ring (a ∷ b ∷ []) (var 0) (var 0 ⊕ minus (var 1) ⊕ var 1) refl ∙ ap (λ w. w +ℚ b) e ∙ ring (b ∷ []) (int (pos 0) ⊕ var 0) (var 0) refl
    go (is_pos p) = absurd (not_both p (subst IsNotNegative (ring (a ∷ b ∷ []) (var 1 ⊕ minus (var 0)) (minus (var 0 ⊕ minus (var 1))) refl) k))
    go (is_neg p) = absurd (not_both p (subst IsNotNegative (ring (a ∷ b ∷ []) (var 0 ⊕ minus (var 1)) (minus (minus (var 0 ⊕ minus (var 1)))) refl) h))

-- a product that is positive with a factor not above zero
falls : (x y : ℚ) → IsNotNegative (neg_ℚ x) → IsPositive (x *ℚ y) → IsPositive (neg_ℚ y)
falls x y h g = go (sign y)
  where
    go : Sign y → IsPositive (neg_ℚ y)
    go (is_neg p) = p
    go (is_zero e) = absurd (not_pos_zero (subst IsPositive (ap (λ w. x *ℚ w) e ∙ ring (x ∷ []) (var 0 ⊗ int (pos 0)) (int (pos 0)) refl) g))
    go (is_pos p) = absurd (not_both g (subst IsNotNegative (ring (x ∷ y ∷ []) (minus (var 0) ⊗ var 1) (minus (var 0 ⊗ var 1)) refl) (nonneg_mul h (pos_nonneg p))))

-- ---- the greatest of t 0 to t (m - 1)
less_or_same : (x y : ℕ) → x ≤ y → (x ≡ y) ⊎ (x < y)
less_or_same x y h = grind arith

compared : (a b : ℕ) → (a ≤ b) ⊎ (b ≤ a)
compared a b = grind arith

record IsGreatestOf (t : ℕ → ℕ) (m k : ℕ) : Type 0 where
  below : k < m
  greatest : (j : ℕ) → j < m → t j ≤ t k

record Greatest (t : ℕ → ℕ) (m : ℕ) : Type 0 where
  at : ℕ
  is : IsGreatestOf t m at

greatest_one : (t : ℕ → ℕ) (j : ℕ) → j < 1 → t j ≤ t 0
greatest_one t j l = let e : j ≡ 0 = omega arith in omega (arith, ap t e)

greatest_new : (t : ℕ → ℕ) (m k : ℕ) → IsGreatestOf t m k → t k ≤ t m → (j : ℕ) → j < suc m → t j ≤ t m
greatest_new t m k g w j l = elim (less_or_same j m (omega arith)) [ inl e ↦ omega (arith, ap t e) | inr b ↦ omega (arith, g.greatest j b, w) ]

greatest_old : (t : ℕ → ℕ) (m k : ℕ) → IsGreatestOf t m k → t m ≤ t k → (j : ℕ) → j < suc m → t j ≤ t k
greatest_old t m k g w j l = elim (less_or_same j m (omega arith)) [ inl e ↦ omega (arith, ap t e, w) | inr b ↦ g.greatest j b ]

greatest_more : (t : ℕ → ℕ) (m : ℕ) → Greatest t m → Greatest t (suc m)
greatest_more t m g = go (compared (t g.at) (t m))
  where
    go : (t g.at ≤ t m) ⊎ (t m ≤ t g.at) → Greatest t (suc m)
    go (inl w) = record { at = m; is = record { below = omega arith; greatest = greatest_new t m g.at g.is w } }
    go (inr w) = record { at = g.at; is = record { below = omega (arith, g.is.below); greatest = greatest_old t m g.at g.is w } }

some_greatest : (t : ℕ → ℕ) (m : ℕ) → Greatest t (suc m)
some_greatest t zero = record { at = 0; is = record { below = omega arith; greatest = greatest_one t } }
some_greatest t (suc m) = greatest_more t (suc m) (some_greatest t m)

-- ---- chains
module _ (size : ℕ) (restricted : ℕ → Bool) (S : (ℕ → ℚ) → ℚ → Type 0) (D : ℕ → Dictionary) (s t : ℕ → ℕ) (writes : (k : ℕ) → Writes size S (D k)) where
  abbrev pub Steps : ℕ → Type 0
  Steps m = (k : ℕ) → k < m → Step restricted (D k) (D (suc k)) (s k) (t k)

  grows : (m : ℕ) → Steps m → (k : ℕ) → k < m → IsNotNegative ((D (suc k)).value -ℚ (D k).value)
  grows m c k l = value_grows size S restricted (D k) (D (suc k)) (s k) (t k) (writes k) (writes (suc k)) (c k l).feasible (c k l).due (c k l).exchanged

  -- the values from k on
  climbs : (m : ℕ) → Steps m → (k j : ℕ) → k + j ≤ m → IsNotNegative ((D (k + j)).value -ℚ (D k).value)
  climbs m c k zero h = let e : k + 0 ≡ k = omega arith in rw e (nonneg_self (D k).value)
  climbs m c k (suc j) h =
      let e : k + suc j ≡ suc (k + j) = omega arith in
      let l : k + j < m = omega arith in
      rw e (nonneg_chain (D k).value (D (k + j)).value (D (suc (k + j))).value (climbs m c k j (omega arith)) (grows m c (k + j) l))

  climbs_to : (m : ℕ) → Steps m → (k l : ℕ) → k ≤ l → l ≤ m → IsNotNegative ((D l).value -ℚ (D k).value)
  climbs_to m c k l h g = let e : k + (l - k) ≡ l = omega arith in subst (λ i. IsNotNegative ((D i).value -ℚ (D k).value)) e (climbs m c k (l - k) (omega arith))

  -- the entering column is no row, and the leaving row is none after
  entering_no_row : (m : ℕ) (c : Steps m) (k : ℕ) (l : k < m) → (D k).is_row (s k) ≡ false
  entering_no_row m c k l = (writes k).apart (s k) (c k l).due.enters.raises.column

  leaving_no_row : (m : ℕ) (c : Steps m) (k : ℕ) (l : k < m) → (D (suc k)).is_row (t k) ≡ false
  leaving_no_row m c k l = (writes (suc k)).apart (t k) (c k l).exchanged.column

  row_not : (k q p : ℕ) → (D k).is_row q ≡ true → (D k).is_row p ≡ false → q ≡ p → ⊥
  row_not k q p f g e = true_not_false ((D k).is_row p) (subst (λ z. (D k).is_row z ≡ true) e f) g

  -- who leaves between two places
  leaves_after : (m : ℕ) → Steps m → (q k j : ℕ) → k + j ≤ m → (D k).is_row q ≡ true → (D (k + j)).is_row q ≡ false → (i : ℕ) × (i < m) × (q ≡ t i)
  leaves_after m c q k zero h f g = absurd (true_not_false ((D k).is_row q) f (subst (λ i. (D i).is_row q ≡ false) (zero_more k) g))
    where
      zero_more : (k : ℕ) → k + 0 ≡ k
      zero_more k = omega arith
  leaves_after m c q k (suc j) h f g =
      let l : k < m = omega arith in
      now l (equal_or_not q (t k)) ((D (suc k)).is_row q) refl
      (λ w. leaves_after m c q (suc k) j (omega arith) w (subst (λ i. (D i).is_row q ≡ false) (shift k j) g))
    where
      shift : (k j : ℕ) → k + suc j ≡ suc k + j
      shift k j = omega arith

      now : k < m → (q ≡ t k) ⊎ (q ≡ t k → ⊥) → (d : Bool) → (D (suc k)).is_row q ≡ d → ((D (suc k)).is_row q ≡ true → (i : ℕ) × (i < m) × (q ≡ t i)) → (i : ℕ) × (i < m) × (q ≡ t i)
      now l (inl e) d w rec = (k, l, e)
      now l (inr n) true w rec = rec w
      now l (inr n) false w rec = absurd (true_not_false ((D k).is_row q) f (sym ((c k l).exchanged.other_rows q (row_not k q (s k) f (entering_no_row m c k l)) n) ∙ w))

  enters_after : (m : ℕ) → Steps m → (q k j : ℕ) → k + j ≤ m → (D k).is_row q ≡ false → (D (k + j)).is_row q ≡ true → (i : ℕ) × (i < m) × (q ≡ s i)
  enters_after m c q k zero h f g = absurd (true_not_false ((D k).is_row q) (subst (λ i. (D i).is_row q ≡ true) (zero_more k) g) f)
    where
      zero_more : (k : ℕ) → k + 0 ≡ k
      zero_more k = omega arith
  enters_after m c q k (suc j) h f g =
      let l : k < m = omega arith in
      now l (equal_or_not q (s k)) ((D (suc k)).is_row q) refl
      (λ w. enters_after m c q (suc k) j (omega arith) w (subst (λ i. (D i).is_row q ≡ true) (shift k j) g))
    where
      shift : (k j : ℕ) → k + suc j ≡ suc k + j
      shift k j = omega arith

      now : k < m → (q ≡ s k) ⊎ (q ≡ s k → ⊥) → (d : Bool) → (D (suc k)).is_row q ≡ d → ((D (suc k)).is_row q ≡ false → (i : ℕ) × (i < m) × (q ≡ s i)) → (i : ℕ) × (i < m) × (q ≡ s i)
      now l (inl e) d w rec = (k, l, e)
      now l (inr n) false w rec = rec w
      now l (inr n) true w rec = absurd (true_not_false ((D k).is_row q) (sym ((c k l).exchanged.other_rows q n (row_not (suc k) q (t k) w (leaving_no_row m c k l))) ∙ w) f)

  -- ---- a cycle
  module _ (m : ℕ) (c : Steps (suc m)) (back : (q : ℕ) → (D (suc m)).is_row q ≡ (D 0).is_row q) where
    leaves : (q k l : ℕ) → k ≤ suc m → l ≤ suc m → (D k).is_row q ≡ true → (D l).is_row q ≡ false → (i : ℕ) × (i < suc m) × (q ≡ t i)
    leaves q k l h g f e = by (compared k l)
      where
        forward : (a b : ℕ) → a ≤ b → b ≤ suc m → (D a).is_row q ≡ true → (D b).is_row q ≡ false → (i : ℕ) × (i < suc m) × (q ≡ t i)
        forward a b h g f e = let w : a + (b - a) ≡ b = omega arith in leaves_after (suc m) c q a (b - a) (omega arith) f (subst (λ i. (D i).is_row q ≡ false) (sym w) e)

        round : (v : Bool) → (D (suc m)).is_row q ≡ v → (i : ℕ) × (i < suc m) × (q ≡ t i)
        round false w = forward k (suc m) h (omega arith) f w
        round true w = forward 0 l (omega arith) g (sym (back q) ∙ w) e

        by : (k ≤ l) ⊎ (l ≤ k) → (i : ℕ) × (i < suc m) × (q ≡ t i)
        by (inl w) = forward k l w g f e
        by (inr w) = round ((D (suc m)).is_row q) refl

    enters : (q k l : ℕ) → k ≤ suc m → l ≤ suc m → (D k).is_row q ≡ false → (D l).is_row q ≡ true → (i : ℕ) × (i < suc m) × (q ≡ s i)
    enters q k l h g f e = by (compared k l)
      where
        forward : (a b : ℕ) → a ≤ b → b ≤ suc m → (D a).is_row q ≡ false → (D b).is_row q ≡ true → (i : ℕ) × (i < suc m) × (q ≡ s i)
        forward a b h g f e = let w : a + (b - a) ≡ b = omega arith in enters_after (suc m) c q a (b - a) (omega arith) f (subst (λ i. (D i).is_row q ≡ true) (sym w) e)

        round : (v : Bool) → (D (suc m)).is_row q ≡ v → (i : ℕ) × (i < suc m) × (q ≡ s i)
        round true w = forward k (suc m) h (omega arith) f w
        round false w = forward 0 l (omega arith) g (sym (back q) ∙ w) e

        by : (k ≤ l) ⊎ (l ≤ k) → (i : ℕ) × (i < suc m) × (q ≡ s i)
        by (inl w) = forward k l w g f e
        by (inr w) = round ((D (suc m)).is_row q) refl

    -- the value comes back, so it never moves
    value_back : (D (suc m)).value ≡ (D 0).value
    value_back =
        sym ((at_zero_columns size S (D (suc m)) (writes (suc m)) (basic_solution (D 0)) (D 0).value (writes 0).basic
        (λ q h. pick_false ((D 0).is_row q) ((D 0).constant q) 0ℚ (sym (back q) ∙ (writes (suc m)).apart q h))).0)

    still : (k : ℕ) → k < suc m → (D (suc k)).value ≡ (D k).value
    still k l =
        nonneg_same (D (suc k)).value (D k).value (climbs_to (suc m) c k (suc k) (omega arith) l)
        (nonneg_chain (D (suc k)).value (D 0).value (D k).value
        (subst (λ z. IsNotNegative (z -ℚ (D (suc k)).value)) value_back (climbs_to (suc m) c (suc k) (suc m) l (omega arith)))
        (climbs_to (suc m) c 0 k (omega arith) (omega arith)))

    same_point : (k : ℕ) → k ≤ suc m → (q : ℕ) → basic_solution (D k) q ≡ basic_solution (D 0) q
    same_point zero h q = refl
    same_point (suc k) h q =
        let l : k < suc m = omega arith in
        point_stays size S restricted (D k) (D (suc k)) (s k) (t k) (writes k) (writes (suc k)) (c k l).feasible (c k l).due (c k l).exchanged (still k l) q ∙ same_point k (omega arith) q

    -- the row of greatest number that ever leaves, when it leaves at k and when it enters at j
    module _ (k : ℕ) (l : k < suc m) (j : ℕ) (b : j < suc m) (again : t k ≡ s j) (top : (i : ℕ) → i < suc m → t i ≤ t k) where
      abbrev rises : ℕ → ℚ
      rises = rise size S (D k) (writes k) (s k)

      column : (D k).is_column (s k) ≡ true
      column = (c k l).due.enters.raises.column

      -- the column that enters where t leaves is before t
      before : s k < t k
      before =
          let inn = leaves (s k) (suc k) k (omega arith) (omega arith) (c k l).exchanged.row (entering_no_row (suc m) c k l) in
          elim (less_or_same (s k) (t k) (omega (arith, inn.2, top inn.0 inn.1))) [
            | inl z ↦ absurd (row_is_no_column size S (D k) (writes k) (t k) (s k) (c k l).due.leaves.limits.row column (sym z))
            | inr z ↦ z
          ]

      -- a restricted quantity of lesser number does not raise the asked form where t enters
      falls_at : (y : ℕ) → y < t k → restricted y ≡ true → IsNotNegative (neg_ℚ ((D j).coefficient y))
      falls_at y h r = go (sign ((D j).coefficient y))
        where
          go : Sign ((D j).coefficient y) → IsNotNegative (neg_ℚ ((D j).coefficient y))
          go (is_neg p) = pos_nonneg p
          go (is_zero e) = subst IsNotNegative (sym (ap neg_ℚ e ∙ ring [] (minus (int (pos 0))) (int (pos 0)) refl)) nonneg_zero
          go (is_pos p) =
              let w : Raises restricted (D j) y = record {
                column = coefficient_at size S (D j) (writes j) y (λ e. not_pos_zero (subst IsPositive e p));
                flag = r;
                coefficient = p;
              } in
              absurd (omega (arith, h, again, (c j b).due.enters.least y w))

      raises : IsPositive ((D j).coefficient (t k))
      raises = subst (λ z. IsPositive ((D j).coefficient z)) (sym again) (c j b).due.enters.raises.coefficient

      -- a row that is a column where t enters would leave before t
      row : (q : ℕ) → IsPositive ((D j).coefficient q *ℚ (D k).entry q (s k)) → (D k).is_row q ≡ true → (D j).is_row q ≡ false → ⊥
      row q p f g =
          let o = leaves q k j (omega arith) (omega arith) f g in
          let r : restricted q ≡ true = subst (λ z. restricted z ≡ true) (sym o.2) (c o.0 o.1).due.leaves.limits.flag in
          elim (less_or_same q (t k) (omega (arith, o.2, top o.0 o.1))) [
            | inl z ↦ not_both (subst (λ y. IsPositive ((D j).coefficient y *ℚ (D k).entry y (s k))) z p)
                (subst IsNotNegative (ring ((D j).coefficient (t k) ∷ (D k).entry (t k) (s k) ∷ []) (var 0 ⊗ minus (var 1)) (minus (var 0 ⊗ var 1)) refl) (nonneg_mul (pos_nonneg raises) (pos_nonneg (c k l).due.leaves.limits.falls)))
            | inr z ↦
                let zero_row : (D k).constant q ≡ 0ℚ =
                sym (pick_true ((D k).is_row q) ((D k).constant q) 0ℚ f) ∙ same_point k (omega arith) q ∙ sym (same_point j (omega arith) q) ∙ pick_false ((D j).is_row q) ((D j).constant q) 0ℚ g in
                let zero_ratio : ratio (D k) (s k) q ≡ 0ℚ = ap (λ y. y *ℚ inv_ℚ (neg_ℚ ((D k).entry q (s k)))) zero_row ∙ ring (inv_ℚ (neg_ℚ ((D k).entry q (s k))) ∷ []) (int (pos 0) ⊗ var 0) (int (pos 0)) refl in
                let zero_least : ratio (D k) (s k) (t k) ≡ 0ℚ = ratio_zero size S restricted (D k) (D (suc k)) (s k) (t k) (writes k) (writes (suc k)) (c k l).feasible (c k l).due (c k l).exchanged (still k l) in
                let limits : Limits restricted (D k) (s k) q = record { row = f; flag = r; falls = falls ((D j).coefficient q) ((D k).entry q (s k)) (falls_at q z r) p } in
                omega (arith, z, (c k l).due.leaves.least_number q limits (zero_ratio ∙ sym zero_least))
          ]

      -- no quantity adds to the rise of the asked form where t enters
      no_rise : (q : ℕ) → IsPositive ((D j).coefficient q *ℚ rises q) → ⊥
      no_rise q p = case (equal_or_not q (s k)) ((D k).is_row q) refl ((D j).is_row q) refl
        where
          in_place : (y : ℚ) → rises q ≡ y → IsPositive ((D j).coefficient q *ℚ y)
          in_place y e = subst (λ w. IsPositive ((D j).coefficient q *ℚ w)) e p

          case : (q ≡ s k) ⊎ (q ≡ s k → ⊥) → (y : Bool) → (D k).is_row q ≡ y → (z : Bool) → (D j).is_row q ≡ z → ⊥
          case (inl e) y h z o =
              not_both
              (subst IsPositive (ring ((D j).coefficient q ∷ []) (var 0 ⊗ int (pos 1)) (var 0) refl) (in_place 1ℚ (ap rises e ∙ rise_of_column size S (D k) (writes k) (s k))))
              (subst (λ y. IsNotNegative (neg_ℚ ((D j).coefficient y))) (sym e) (falls_at (s k) before (c k l).due.enters.raises.flag))
          case (inr n) true h true o = true_not_false ((D j).is_row q) o ((writes j).apart q (coefficient_at size S (D j) (writes j) q (λ e. not_pos_zero (subst IsPositive (ap (λ a. a *ℚ rises q) e ∙ ring (rises q ∷ []) (int (pos 0) ⊗ var 0) (int (pos 0)) refl) p))))
          case (inr n) true h false o = row q (in_place ((D k).entry q (s k)) (rise_of_row size S (D k) (writes k) (s k) q n h)) h o
          case (inr n) false h z o = not_pos_zero (subst IsPositive (ring ((D j).coefficient q ∷ []) (var 0 ⊗ int (pos 0)) (int (pos 0)) refl) (in_place 0ℚ (rise_of_other size S (D k) (writes k) (s k) q n h)))

      none : ⊥
      none =
          let up = some_positive size _ (subst IsPositive (coefficient_by size S (D k) (D j) (writes k) (writes j) (s k) column) (c k l).due.enters.raises.coefficient) in
          no_rise up.0 up.1

    pub no_cycle : ⊥
    no_cycle =
        let g = some_greatest t m in
        let k = g.at in
        let l = g.is.below in
        let out = enters (t k) (suc k) k (omega arith) (omega arith) (leaving_no_row (suc m) c k l) (c k l).due.leaves.limits.row in
        none k l out.0 out.1 out.2 g.is.greatest
