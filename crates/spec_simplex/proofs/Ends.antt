-- What a feasible dictionary says of the greatest value of its asked form.
use Rattle.std.proofs.Common.{◌≡◌, ℕ, [], ◌∷◌, Bool, true, false, nat_eq, pos, refl, ap, sym, subst, ◌∙◌}
use Rattle.spec_numbers.specs.Rational.{ℚ, 0ℚ, 1ℚ, ◌+ℚ◌, ◌*ℚ◌, neg_ℚ, ◌-ℚ◌, inv_ℚ, IsPositive, IsNotNegative}
use Rattle.spec_numbers.proofs.Ring.{var, int, ◌⊕◌, ◌⊗◌, minus}
use Rattle.spec_numbers.proofs.RationalLemmas.{ring}
use Rattle.spec_numbers.proofs.Sign.{pos_add, nonneg_add, nonneg_mul, pos_nonneg, pos_one, nonneg_zero, Sign, is_zero, is_pos, is_neg, sign, inv_mul, inv_pos, times_inverse}
use Rattle.spec_simplex.specs.Dictionary.{Dictionary, IsDictionary, IsFeasible, Obeys, IsGreatest, Exceeds, IsUnbounded, sum_below, pick, ray, basic_solution}
use Rattle.spec_simplex.specs.Rule.{IsOptimal, IsUnlimited, IsFree}
use Rattle.spec_simplex.proofs.Sums.{sum_falls}
use Rattle.spec_simplex.proofs.Solutions.{true_not_false, basic_satisfies, ray_satisfies}
use Rattle.spec_numbers.proofs.Tests.{nat_eq-same}

module _ (size : ℕ) (restricted : ℕ → Bool) (d : Dictionary) (w : IsDictionary size d) (f : IsFeasible restricted d) where
  pub basic_obeys : Obeys restricted (basic_solution d)
  basic_obeys q r = go (d.is_row q) refl
    where
      go : (k : Bool) → d.is_row q ≡ k → IsNotNegative (pick k (d.constant q) 0ℚ)
      go true e = f.constants q e r
      go false e = nonneg_zero

  -- ---- no column raises the asked form
  not_above : (x y : ℚ) → x ≡ 0ℚ → IsNotNegative (neg_ℚ (x *ℚ y))
  not_above x y e = subst IsNotNegative (sym (ap (λ v. neg_ℚ (v *ℚ y)) e ∙ ring (y ∷ []) (minus (int (pos 0) ⊗ var 0)) (int (pos 0)) refl)) nonneg_zero

  term_falls : IsOptimal restricted d → (x : ℕ → ℚ) → Obeys restricted x → (q : ℕ) → IsNotNegative (neg_ℚ (d.coefficient q *ℚ x q))
  term_falls o x h q = go (d.is_column q) refl (restricted q) refl (sign (d.coefficient q))
    where
      go : (k : Bool) → d.is_column q ≡ k → (r : Bool) → restricted q ≡ r → Sign (d.coefficient q) → IsNotNegative (neg_ℚ (d.coefficient q *ℚ x q))
      go false k r e s = not_above (d.coefficient q) (x q) (w.no_other_coefficient q k)
      go true k false e s = not_above (d.coefficient q) (x q) (o.other_columns q k e)
      go true k true e (is_zero z) = not_above (d.coefficient q) (x q) z
      go true k true e (is_pos p) = absurd (o.restricted_columns q (record { column = k; flag = e; coefficient = p }))
      go true k true e (is_neg p) = subst IsNotNegative (ring (d.coefficient q ∷ x q ∷ []) (minus (var 0) ⊗ var 1) (minus (var 0 ⊗ var 1)) refl) (nonneg_mul (pos_nonneg p) (h q e))

  pub greatest_value : IsOptimal restricted d → IsGreatest size restricted d d.value
  greatest_value o = record {
    bound = λ x z s h. record {
      gap = subst IsNotNegative
          (ring (d.value ∷ sum_below size (λ q. d.coefficient q *ℚ x q) ∷ []) (minus (var 1)) (var 0 ⊕ minus (var 0 ⊕ var 1)) refl ∙ ap (λ v. d.value -ℚ v) (sym s.asked))
          (sum_falls size (λ q. d.coefficient q *ℚ x q) (term_falls o x h));
    };
    at = basic_solution d;
    satisfies = basic_satisfies size d w;
    obeys = basic_obeys;
  }

  -- ---- along a column
  -- the height at which a column with a coefficient gives 1 more than the value and a gap
  height : (k gap : ℚ) → ℚ
  height k gap = inv_ℚ k *ℚ (1ℚ +ℚ gap)

  above : (k gap r : ℚ) → k *ℚ inv_ℚ k ≡ 1ℚ → IsPositive ((d.value +ℚ gap -ℚ r) +ℚ 1ℚ) → IsPositive ((d.value +ℚ k *ℚ height k gap) -ℚ r)
  unfolding height
  above k gap r unit p =
      subst IsPositive
      (ring (d.value ∷ gap ∷ r ∷ []) (var 0 ⊕ var 1 ⊕ minus (var 2) ⊕ int (pos 1)) (var 0 ⊕ int (pos 1) ⊗ (int (pos 1) ⊕ var 1) ⊕ minus (var 2)) refl
      ∙ ap (λ v. d.value +ℚ v *ℚ (1ℚ +ℚ gap) -ℚ r) (sym unit)
      ∙ ring (d.value ∷ k ∷ inv_ℚ k ∷ gap ∷ r ∷ []) (var 0 ⊕ (var 1 ⊗ var 2) ⊗ (int (pos 1) ⊕ var 3) ⊕ minus (var 4)) (var 0 ⊕ var 1 ⊗ (var 2 ⊗ (int (pos 1) ⊕ var 3)) ⊕ minus (var 4)) refl)
      p

  high : (k : ℚ) → IsPositive k → (gap : ℚ) → IsNotNegative gap → IsNotNegative (height k gap)
  unfolding height
  high k p gap h = nonneg_mul (pos_nonneg (inv_pos p)) (nonneg_add (pos_nonneg pos_one) h)

  -- a gap not below zero that comes above r
  record Gap (r : ℚ) : Type 0 where
    size_of : ℚ
    not_negative : IsNotNegative size_of
    enough : IsPositive ((d.value +ℚ size_of -ℚ r) +ℚ 1ℚ)

  gap_to : (r : ℚ) → Gap r
  gap_to r = go (sign (r -ℚ d.value))
    where
      go : Sign (r -ℚ d.value) → Gap r
      go (is_pos p) = record {
        size_of = r -ℚ d.value;
        not_negative = pos_nonneg p;
        enough = subst IsPositive (ring (d.value ∷ r ∷ []) (int (pos 1)) (var 0 ⊕ (var 1 ⊕ minus (var 0)) ⊕ minus (var 1) ⊕ int (pos 1)) refl) pos_one;
      }
      go (is_zero e) = record {
        size_of = 0ℚ;
        not_negative = nonneg_zero;
        enough = subst IsPositive (ring [] (int (pos 1)) (minus (int (pos 0)) ⊕ int (pos 1)) refl ∙ ap (λ v. neg_ℚ v +ℚ 1ℚ) (sym e) ∙ ring (d.value ∷ r ∷ []) (minus (var 1 ⊕ minus (var 0)) ⊕ int (pos 1)) (var 0 ⊕ int (pos 0) ⊕ minus (var 1) ⊕ int (pos 1)) refl) pos_one;
      }
      go (is_neg p) = record {
        size_of = 0ℚ;
        not_negative = nonneg_zero;
        enough = subst IsPositive (ring (d.value ∷ r ∷ []) (minus (var 1 ⊕ minus (var 0)) ⊕ int (pos 1)) (var 0 ⊕ int (pos 0) ⊕ minus (var 1) ⊕ int (pos 1)) refl) (pos_add p (pos_nonneg pos_one));
      }

  along : (c : ℕ) → d.is_column c ≡ true → (r y : ℚ) → Obeys restricted (ray d c y) → IsPositive ((d.value +ℚ d.coefficient c *ℚ y) -ℚ r) → Exceeds size restricted d r
  along c col r y h p = record { at = ray d c y; value = d.value +ℚ d.coefficient c *ℚ y; satisfies = ray_satisfies size d w c col y; obeys = h; above = record { gap = p } }

  -- the points of a ray obey where its own column does and no restricted row falls
  ray_obeys : (c : ℕ) (y : ℚ) → (restricted c ≡ true → IsNotNegative y) → ((q : ℕ) → d.is_row q ≡ true → restricted q ≡ true → IsNotNegative (d.entry q c *ℚ y)) → Obeys restricted (ray d c y)
  ray_obeys c y own rows q r = go (nat_eq q c) refl (d.is_row q) refl
    where
      go : (b : Bool) → nat_eq q c ≡ b → (k : Bool) → d.is_row q ≡ k → IsNotNegative (pick b y (pick k (d.constant q +ℚ d.entry q c *ℚ y) 0ℚ))
      go true g k e = own (subst (λ z. restricted z ≡ true) (nat_eq-same q c g) r)
      go false g true e = nonneg_add (f.constants q e r) (rows q e r)
      go false g false e = nonneg_zero

  pub unlimited_value : (c : ℕ) → IsUnlimited restricted d c → IsUnbounded size restricted d
  unlimited_value c u r = go (gap_to r)
    where
      up : (gap : ℚ) → IsNotNegative gap → IsNotNegative (height (d.coefficient c) gap)
      up gap h = high (d.coefficient c) u.raises.coefficient gap h

      no_fall : (q : ℕ) → d.is_row q ≡ true → restricted q ≡ true → Sign (d.entry q c) → IsNotNegative (d.entry q c)
      no_fall q h g (is_zero e) = subst IsNotNegative (sym e) nonneg_zero
      no_fall q h g (is_pos p) = pos_nonneg p
      no_fall q h g (is_neg p) = absurd (u.no_limit q (record { row = h; flag = g; falls = p }))

      go : Gap r → Exceeds size restricted d r
      go g =
          along c u.raises.column r (height (d.coefficient c) g.size_of)
          (ray_obeys c (height (d.coefficient c) g.size_of) (λ _. up g.size_of g.not_negative) (λ q h e. nonneg_mul (no_fall q h e (sign (d.entry q c))) (up g.size_of g.not_negative)))
          (above (d.coefficient c) g.size_of r (inv_mul u.raises.coefficient) g.enough)

  pub free_value : (c : ℕ) → IsFree restricted d c → IsUnbounded size restricted d
  free_value c u r = go (gap_to r)
    where
      go : Gap r → Exceeds size restricted d r
      go g =
          let y = height (d.coefficient c) g.size_of in
          along c u.column r y
          (ray_obeys c y (λ e. absurd (true_not_false (restricted c) e u.flag))
          (λ q h e. subst IsNotNegative (sym (ap (λ v. v *ℚ y) (f.no_free_column q c h e u.column u.flag) ∙ ring (y ∷ []) (int (pos 0) ⊗ var 0) (int (pos 0)) refl)) nonneg_zero))
          (above (d.coefficient c) g.size_of r (times_inverse (d.coefficient c) u.coefficient) g.enough)
