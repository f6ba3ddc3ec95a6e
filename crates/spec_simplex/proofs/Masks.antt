-- A dictionary in which only restricted columns stand: the others are held at zero. Exchanges by the rule don't see the difference.
use Rattle.std.proofs.Common.{◌≡◌, ℕ, Bool, true, false, [], ◌∷◌, pos, refl, ap, sym, subst, ◌∙◌}
use Rattle.spec_numbers.specs.Rational.{ℚ, 0ℚ, ◌+ℚ◌, ◌*ℚ◌, ◌/ℚ◌, neg_ℚ, ◌≤ℚ◌, IsPositive, IsNotNegative}
use Rattle.spec_numbers.proofs.Ring.{var, int, ◌⊗◌}
use Rattle.spec_numbers.proofs.RationalLemmas.{ring}
use Rattle.spec_simplex.specs.Dictionary.{Dictionary, IsDictionary, Satisfies, AreEquivalent, IsFeasible, sum_below, pick}
use Rattle.spec_simplex.specs.Rule.{Raises, Limits, IsDue, ratio}
use Rattle.spec_simplex.proofs.Solutions.{true_not_false, pick_true, pick_false}

module _ (restricted : ℕ → Bool) where
  abbrev pub masked : Dictionary → Dictionary
  masked d = record {
    is_row = d.is_row;
    is_column = d.is_column;
    constant = d.constant;
    entry = λ q c. pick (restricted c) (d.entry q c) 0ℚ;
    value = d.value;
    coefficient = λ c. pick (restricted c) (d.coefficient c) 0ℚ;
  }

  zero_still : (b : Bool) (p : ℚ) → p ≡ 0ℚ → pick b p 0ℚ ≡ 0ℚ
  zero_still true p e = e
  zero_still false p e = refl

  pub masked_dictionary : (size : ℕ) (d : Dictionary) → IsDictionary size d → IsDictionary size (masked d)
  masked_dictionary size d w = record {
    rows_below = w.rows_below;
    columns_below = w.columns_below;
    apart = w.apart;
    no_other_entry = λ q c e. zero_still (restricted c) (d.entry q c) (w.no_other_entry q c e);
    no_other_coefficient = λ c e. zero_still (restricted c) (d.coefficient c) (w.no_other_coefficient c e);
  }

  pub masked_feasible : (d : Dictionary) → ((q : ℕ) → d.is_row q ≡ true → restricted q ≡ true → IsNotNegative (d.constant q)) → IsFeasible restricted (masked d)
  masked_feasible d h = record {
    constants = h;
    no_free_column = λ q c r f i e. pick_false (restricted c) (d.entry q c) 0ℚ e;
  }

  -- ---- the rule
  module _ (d : Dictionary) where
    raises_here : (c : ℕ) → Raises restricted (masked d) c → Raises restricted d c
    raises_here c r = record { column = r.column; flag = r.flag; coefficient = subst IsPositive (pick_true (restricted c) (d.coefficient c) 0ℚ r.flag) r.coefficient }

    raises_there : (c : ℕ) → Raises restricted d c → Raises restricted (masked d) c
    raises_there c r = record { column = r.column; flag = r.flag; coefficient = subst IsPositive (sym (pick_true (restricted c) (d.coefficient c) 0ℚ r.flag)) r.coefficient }

    module _ (c : ℕ) (flag : restricted c ≡ true) where
      entry_same : (q : ℕ) → (masked d).entry q c ≡ d.entry q c
      entry_same q = pick_true (restricted c) (d.entry q c) 0ℚ flag

      limits_here : (q : ℕ) → Limits restricted (masked d) c q → Limits restricted d c q
      limits_here q l = record { row = l.row; flag = l.flag; falls = subst (λ e. IsPositive (neg_ℚ e)) (entry_same q) l.falls }

      limits_there : (q : ℕ) → Limits restricted d c q → Limits restricted (masked d) c q
      limits_there q l = record { row = l.row; flag = l.flag; falls = subst (λ e. IsPositive (neg_ℚ e)) (sym (entry_same q)) l.falls }

      ratio_same : (q : ℕ) → ratio (masked d) c q ≡ ratio d c q
      ratio_same q = ap (λ e. d.constant q /ℚ neg_ℚ e) (entry_same q)

    pub masked_due : (c r : ℕ) → IsDue restricted d c r → IsDue restricted (masked d) c r
    masked_due c r due = record {
      enters = record {
        raises = raises_there c due.enters.raises;
        least = λ q h. due.enters.least q (raises_here q h);
      };
      leaves = record {
        limits = limits_there c flag r due.leaves.limits;
        least_ratio = λ q h. subst (λ x. x ≤ℚ ratio (masked d) c q) (sym (same r))
            (subst (λ x. ratio d c r ≤ℚ x) (sym (same q)) (due.leaves.least_ratio q (limits_here c flag q h)));
        least_number = λ q h e. due.leaves.least_number q (limits_here c flag q h) (sym (same q) ∙ e ∙ same r);
      };
    }
      where
        flag : restricted c ≡ true
        flag = due.enters.raises.flag

        same : (q : ℕ) → ratio (masked d) c q ≡ ratio d c q
        same q = ratio_same c flag q

  -- ---- the same values satisfy
  -- columns that are not restricted are zero
  abbrev held : Dictionary → (ℕ → ℚ) → ℕ → ℚ
  held d x c = pick (restricted c) (x c) (pick (d.is_column c) 0ℚ (x c))

  module _ (d : Dictionary) (x : ℕ → ℚ) (a : ℕ → ℚ) (none : (c : ℕ) → d.is_column c ≡ false → a c ≡ 0ℚ) where
    term_same : (c : ℕ) → pick (restricted c) (a c) 0ℚ *ℚ x c ≡ a c *ℚ held d x c
    term_same c = go (restricted c) (d.is_column c) refl
      where
        go : (r b : Bool) → d.is_column c ≡ b → pick r (a c) 0ℚ *ℚ x c ≡ a c *ℚ pick r (x c) (pick b 0ℚ (x c))
        go true b e = refl
        go false true e = ring (x c ∷ a c ∷ []) (int (pos 0) ⊗ var 0) (var 1 ⊗ int (pos 0)) refl
        go false false e = ap (λ y. y *ℚ x c) (sym (none c e))

    sum_same : (size : ℕ) → sum_below size (λ c. pick (restricted c) (a c) 0ℚ *ℚ x c) ≡ sum_below size (λ c. a c *ℚ held d x c)
    sum_same size = ap (sum_below size) (λ i c. term_same c i)

  module _ (size : ℕ) (d : Dictionary) (w : IsDictionary size d) (x : ℕ → ℚ) (z : ℚ) where
    row_held : (q : ℕ) → d.is_row q ≡ true → held d x q ≡ x q
    row_held q r = go (restricted q) (d.is_column q) refl
      where
        go : (f b : Bool) → d.is_column q ≡ b → pick f (x q) (pick b 0ℚ (x q)) ≡ x q
        go true b e = refl
        go false true e = absurd (true_not_false (d.is_row q) r (w.apart q e))
        go false false e = refl

    value_same : (a : ℕ → ℚ) → ((c : ℕ) → d.is_column c ≡ false → a c ≡ 0ℚ) → (k : ℚ)
        → k +ℚ sum_below size (λ c. pick (restricted c) (a c) 0ℚ *ℚ x c) ≡ k +ℚ sum_below size (λ c. a c *ℚ held d x c)
    value_same a none k = ap (λ s. k +ℚ s) (sum_same d x a none size)

    satisfied_held : Satisfies size (masked d) x z → Satisfies size d (held d x) z
    satisfied_held s = record {
      rows = λ q r. row_held q r ∙ s.rows q r ∙ value_same (d.entry q) (w.no_other_entry q) (d.constant q);
      asked = s.asked ∙ value_same d.coefficient w.no_other_coefficient d.value;
    }

    held_satisfied : Satisfies size d (held d x) z → Satisfies size (masked d) x z
    held_satisfied s = record {
      rows = λ q r. sym (row_held q r) ∙ s.rows q r ∙ sym (value_same (d.entry q) (w.no_other_entry q) (d.constant q));
      asked = s.asked ∙ sym (value_same d.coefficient w.no_other_coefficient d.value);
    }

  module _ (d e : Dictionary) (same : (c : ℕ) → restricted c ≡ false → d.is_column c ≡ e.is_column c) (x : ℕ → ℚ) where
    held_same : held d x ≡ held e x
    held_same = λ i c. at c i
      where
        at : (c : ℕ) → held d x c ≡ held e x c
        at c = go (restricted c) refl
          where
            go : (b : Bool) → restricted c ≡ b → pick b (x c) (pick (d.is_column c) 0ℚ (x c)) ≡ pick b (x c) (pick (e.is_column c) 0ℚ (x c))
            go true h = refl
            go false h = ap (λ b. pick b 0ℚ (x c)) (same c h)

  pub masked_alike : (size : ℕ) (d e : Dictionary) → IsDictionary size d → IsDictionary size e → AreEquivalent size d e
      → ((c : ℕ) → restricted c ≡ false → d.is_column c ≡ e.is_column c) → AreEquivalent size (masked d) (masked e)
  masked_alike size d e w v a same x z = (
    λ s. held_satisfied size e v x z (subst (λ y. Satisfies size e y z) (held_same d e same x) ((a (held d x) z).0 (satisfied_held size d w x z s))),
    λ s. held_satisfied size d w x z (subst (λ y. Satisfies size d y z) (sym (held_same d e same x)) ((a (held e x) z).1 (satisfied_held size e v x z s))),
  )
