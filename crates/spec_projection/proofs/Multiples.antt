-- Whether a form is a multiple of another, and whether a list has a disequation of a form.
use Rattle.std.proofs.Common.{◌≡◌, ◌≢◌, ◌⊎◌, inl, inr, ℕ, List, [], ◌∷◌, pos, refl, ap, ap₂, sym, subst, ◌∙◌}
use Rattle.spec_numbers.specs.Rational.{ℚ, 0ℚ, 1ℚ, ◌+ℚ◌, ◌-ℚ◌, ◌*ℚ◌, inv_ℚ}
use Rattle.spec_numbers.specs.Sums.{Monomial, Mentions, factor_of, sum_at}
use Rattle.spec_numbers.proofs.Ring.{var, int, ◌⊕◌, ◌⊗◌, minus}
use Rattle.spec_numbers.proofs.RationalLemmas.{ring}
use Rattle.spec_numbers.proofs.Sign.{zero_or_not, one_not_zero, times_inverse}
use Rattle.spec_linear.specs.declared.Relation.{Relation}
use Rattle.spec_linear.specs.declared.Relation.TheVariants.{Eq, Gt, Ge, Ne}
use Rattle.spec_linear.specs.Form.{Linear, value_at, IsForm, scaled_form, difference_form}
use Rattle.spec_linear.specs.Solution.{Constraint}
use Rattle.spec_linear.proofs.Values.{value_at-scaled_form, value_at-difference_form}
use Rattle.spec_linear.proofs.Ordered.{IsForm-scaled_form, IsForm-difference_form}
use Rattle.spec_linear.proofs.NoVariable.{same_number_everywhere, constant_is}
use Rattle.spec_projection.specs.Lists.{AreForms}
use Rattle.spec_projection.specs.Strict.{AreMultiples, HasForm}
use Rattle.spec_projection.proofs.Mentions.{mentioned_factor}
use Rattle.spec_projection.proofs.Arranged.{multiple_factor}

-- the second form has k times the values of the first
abbrev Times : ℚ → Linear → Linear → Type 0
Times k f g = (a : ℕ → ℚ) → value_at a g ≡ k *ℚ value_at a f

no_difference : (p q : ℚ) → p -ℚ q ≡ 0ℚ → p ≡ q
no_difference p q e = ring (p ∷ q ∷ []) (var 0) ((var 0 ⊕ minus (var 1)) ⊕ var 1) refl ∙ ap (λ w. w +ℚ q) e ∙ ring (q ∷ []) (int (pos 0) ⊕ var 0) (var 0) refl

difference_is : (k : ℚ) (f g : Linear) (a : ℕ → ℚ) → value_at a (difference_form g (scaled_form k f)) ≡ value_at a g -ℚ k *ℚ value_at a f
difference_is k f g a = value_at-difference_form a g (scaled_form k f) ∙ ap (λ w. value_at a g -ℚ w) (value_at-scaled_form a k f)

zero_difference : (k : ℚ) (f g : Linear) → Times k f g → (a : ℕ → ℚ) → value_at a (difference_form g (scaled_form k f)) ≡ 0ℚ
zero_difference k f g h a = difference_is k f g a ∙ ap (λ w. w -ℚ k *ℚ value_at a f) (h a) ∙ ring (k ∷ value_at a f ∷ []) (var 0 ⊗ var 1 ⊕ minus (var 0 ⊗ var 1)) (int (pos 0)) refl

times_or_not : (k : ℚ) (f g : Linear) → IsForm f → IsForm g → Times k f g ⊎ (Times k f g → ⊥)
times_or_not k f g i j = go (difference_form g (scaled_form k f)) (IsForm-difference_form g (scaled_form k f) j (IsForm-scaled_form k f i)) (difference_is k f g) (zero_difference k f g)
  where
    go : (d : Linear) → IsForm d → ((a : ℕ → ℚ) → value_at a d ≡ value_at a g -ℚ k *ℚ value_at a f) → (Times k f g → (a : ℕ → ℚ) → value_at a d ≡ 0ℚ) → Times k f g ⊎ (Times k f g → ⊥)
    go d o is zero = by d.products refl (zero_or_not d.constant)
      where
        by : (s : List Monomial) → d.products ≡ s → (d.constant ≡ 0ℚ) ⊎ (d.constant ≡ 0ℚ → ⊥) → Times k f g ⊎ (Times k f g → ⊥)
        by [] e (inl z) = inl (λ a. no_difference (value_at a g) (k *ℚ value_at a f)
            (sym (is a) ∙ ap₂ (λ u s. u +ℚ sum_at a s) z e ∙ ring [] (int (pos 0) ⊕ int (pos 0)) (int (pos 0)) refl))
        by [] e (inr n) = inr (λ h. n (same_number_everywhere d 0ℚ (zero h)).1)
        by (m ∷ s) e u = inr (λ h. mentioned_factor m.variable 0 d.products o (subst (Mentions m.variable) (sym e) (inl refl)) ((same_number_everywhere d 0ℚ (zero h)).0 m.variable))

-- the factor that there must be
record Factor (f g : Linear) : Type 0 where
  number : ℚ
  forced : AreMultiples f g → Times number f g × (number ≢ 0ℚ)

quotient_is : (k p q : ℚ) → p ≢ 0ℚ → q ≡ k *ℚ p → k ≡ q *ℚ inv_ℚ p
quotient_is k p q n e =
    ring (k ∷ []) (var 0) (var 0 ⊗ int (pos 1)) refl ∙ ap (λ w. k *ℚ w) (sym (times_inverse p n))
    ∙ ring (k ∷ p ∷ inv_ℚ p ∷ []) (var 0 ⊗ (var 1 ⊗ var 2)) ((var 0 ⊗ var 1) ⊗ var 2) refl ∙ ap (λ w. w *ℚ inv_ℚ p) (sym e)

forced_by : (f g : Linear) (p q : ℚ) → p ≢ 0ℚ → ((m : AreMultiples f g) → q ≡ m.factor *ℚ p) → Factor f g
forced_by f g p q n h = record {
  number = q *ℚ inv_ℚ p;
  forced = λ m. let e = quotient_is m.factor p q n (h m) in ((λ a. m.same a ∙ ap (λ w. w *ℚ value_at a f) e), (λ z. m.nonzero (e ∙ z)));
}

the_factor : (f g : Linear) → IsForm f → Factor f g
the_factor f g i = by f.products refl (zero_or_not f.constant)
  where
    by : (s : List Monomial) → f.products ≡ s → (f.constant ≡ 0ℚ) ⊎ (f.constant ≡ 0ℚ → ⊥) → Factor f g
    by (m ∷ s) e u = forced_by f g (factor_of m.variable f.products) (factor_of m.variable g.products)
        (mentioned_factor m.variable 0 f.products i (subst (Mentions m.variable) (sym e) (inl refl))) (λ h. multiple_factor f g h m.variable)
    by [] e (inr n) = forced_by f g f.constant g.constant n (λ h. constant_is g ∙ h.same (λ x. 0ℚ) ∙ ap (λ w. h.factor *ℚ w) (sym (constant_is f)))
    by [] e (inl z) = record {
      number = 1ℚ;
      forced = λ h. (
        (λ a.
            let none : value_at a f ≡ 0ℚ = ap₂ (λ u s. u +ℚ sum_at a s) z e ∙ ring [] (int (pos 0) ⊕ int (pos 0)) (int (pos 0)) refl in
            h.same a ∙ ap (λ w. h.factor *ℚ w) none ∙ ring (h.factor ∷ []) (var 0 ⊗ int (pos 0)) (int (pos 1) ⊗ int (pos 0)) refl ∙ ap (λ w. 1ℚ *ℚ w) (sym none)),
        one_not_zero,
      );
    }

pub multiples_or_not : (f g : Linear) → IsForm f → IsForm g → AreMultiples f g ⊎ (AreMultiples f g → ⊥)
multiples_or_not f g i j = go (the_factor f g i)
  where
    go : Factor f g → AreMultiples f g ⊎ (AreMultiples f g → ⊥)
    go k = by (times_or_not k.number f g i j) (zero_or_not k.number)
      where
        by : Times k.number f g ⊎ (Times k.number f g → ⊥) → (k.number ≡ 0ℚ) ⊎ (k.number ≡ 0ℚ → ⊥) → AreMultiples f g ⊎ (AreMultiples f g → ⊥)
        by (inl t) (inr n) = inl (record { factor = k.number; nonzero = n; same = t })
        by (inl t) (inl z) = inr (λ m. (k.forced m).1 z)
        by (inr n) z = inr (λ m. n (k.forced m).0)

unequal_or_not : (r : Relation) → (r ≡ Ne) ⊎ (r ≡ Ne → ⊥)
unequal_or_not Eq = inr (λ e. cc)
unequal_or_not Gt = inr (λ e. cc)
unequal_or_not Ge = inr (λ e. cc)
unequal_or_not Ne = inl refl

pub has_form_or_not : (f : Linear) (l : List Constraint) → IsForm f → AreForms l → HasForm f l ⊎ (HasForm f l → ⊥)
has_form_or_not f [] i o = inr (λ h. h.among)
has_form_or_not f (d ∷ l) i o = go (unequal_or_not d.relation) (multiples_or_not f d.form i (o d (inl refl))) (has_form_or_not f l i (λ c h. o c (inr h)))
  where
    wider : HasForm f l → HasForm f (d ∷ l)
    wider h = record { disequation = h.disequation; among = inr h.among; relation = h.relation; multiples = h.multiples }

    narrower : (h : HasForm f (d ∷ l)) → (h.disequation ≡ d → ⊥) → (HasForm f l → ⊥) → ⊥
    narrower h m n = elim h.among [ inl e ↦ m e | inr k ↦ n (record { disequation = h.disequation; among = k; relation = h.relation; multiples = h.multiples }) ]

    go : (d.relation ≡ Ne) ⊎ (d.relation ≡ Ne → ⊥) → AreMultiples f d.form ⊎ (AreMultiples f d.form → ⊥) → HasForm f l ⊎ (HasForm f l → ⊥) → HasForm f (d ∷ l) ⊎ (HasForm f (d ∷ l) → ⊥)
    go e m (inl h) = inl (wider h)
    go (inl e) (inl m) (inr n) = inl (record { disequation = d; among = inl refl; relation = e; multiples = m })
    go (inr k) m (inr n) = inr (λ h. narrower h (λ e. k (ap (λ z. z.relation) (sym e) ∙ h.relation)) n)
    go (inl e) (inr k) (inr n) = inr (λ h. narrower h (λ w. k (subst (λ z. AreMultiples f z.form) w h.multiples)) n)
