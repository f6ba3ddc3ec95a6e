-- An expression under more fixed values: where it was linear it is so still, with the same values; a number stays that number.
use Rattle.std.proofs.Common.{◌≡◌, ℕ, [], ◌∷◌, Bool, true, false, cond, pos, Option, None, Some, refl, sym, ap, ap₂, ◌∙◌, subst}
use Rattle.std.specs.Prelude.{◌==◌, ⊤}
use Rattle.spec_numbers.specs.Rational.{ℚ, 1ℚ, ◌+ℚ◌, ◌*ℚ◌, neg_ℚ, inv_ℚ}
use Rattle.spec_numbers.proofs.Ring.{var, int, ◌⊗◌}
use Rattle.spec_numbers.proofs.RationalLemmas.{ring}
use Rattle.spec_linear.specs.Form.{Linear, value_at, is_zero, constant_form, variable_form, sum_form, scaled_form, negated_form}
use Rattle.spec_linear.proofs.Values.{value_at-constant_form, value_at-variable_form, value_at-sum_form, value_at-scaled_form, value_at-negated_form}
use Rattle.spec_numbers.proofs.Tests.{nat_eq-same}
use Rattle.spec_linear.proofs.Ordered.{forms_same}
use Rattle.spec_terms.specs.Term.{Var, Number, Name, Compound, one, more}
use Rattle.spec_syntax.specs.Trees.{Tree}
use Rattle.spec_terms.specs.Operations.{unary_value, least, greatest}
use Rattle.spec_terms.specs.declared.arithmetic.UnaryOperation.TheVariants as unary
use Rattle.spec_branch.specs.Expressions.{UnaryName, Same, Opposite, Absolute, BinaryName, Plus, Minus, Times, Over, Power, Least, Greatest, unary_name, binary_name, number_of, on_number, on_numbers, unary_form, product_form, quotient_form, exponent_of, power, power_of_form, power_form, binary_form, variable_under, unary_of, binary_of, form_of}
use Rattle.spec_branch.specs.Values.{Agrees}
use Rattle.spec_branch.proofs.Kept.{is_constant_form, value_of_number, Good, GoodOption, form_good}

-- the later values
module _ (later : ℕ → Option ℚ) where
  -- the same value wherever the fixed values are given
  pub record Refines (f g : Linear) : Type 0 where
    pub same : (a : ℕ → ℚ) → Agrees later a → value_at a f ≡ value_at a g

  abbrev or_own : Option ℚ → ℚ → ℚ
  or_own None q = q
  or_own (Some p) q = p

  -- the assignment with the fixed values in place of its own
  abbrev given : (ℕ → ℚ) → ℕ → ℚ
  given a x = or_own (later x) (a x)

  given_agrees : (a : ℕ → ℚ) → Agrees later (given a)
  given_agrees a x q e = ap (λ o. or_own o (a x)) e

  given_same : (a : ℕ → ℚ) (x : ℕ) → later x ≡ None → a x ≡ given a x
  given_same a x e = sym (ap (λ o. or_own o (a x)) e)

  -- a number stays that number
  pub stays_number : (f g : Linear) → Refines f g → Good later g → (k : ℚ) → number_of f ≡ Some k
      → number_of g ≡ Some k
  stays_number f g r good k e =
      let c : f ≡ constant_form k = is_constant_form f k e in
      ap number_of (forms_same g (constant_form k) good.form tt (λ a. good.looks a (given a) (given_same a) ∙ sym (r.same (given a) (given_agrees a)) ∙ ap (value_at (given a)) c))

  -- what is there stays there
  abbrev Keeps : {A : Type 0} → Option A → Option A → Type 0
  Keeps {A} p q = (k : A) → p ≡ Some k → q ≡ Some k

  -- a form that is there is refined by one
  abbrev pub Grows : Option Linear → Option Linear → Type 0
  Grows None p = ⊤
  Grows (Some f) p = (g : Linear) × (p ≡ Some g) × Refines f g

  grown : (f g : Linear) → ((a : ℕ → ℚ) → Agrees later a → value_at a f ≡ value_at a g) → Grows (Some f) (Some g)
  grown f g h = (g, refl, record { same = h })

  itself : (f : Linear) → Grows (Some f) (Some f)
  itself f = grown f f (λ a h. refl)

  grow_number : (h : ℚ → ℚ) (p q : Option ℚ) → Keeps p q → Grows (on_number h p) (on_number h q)
  grow_number h None q k = tt
  grow_number h (Some x) q k = subst (λ (w : Option ℚ). Grows (Some (constant_form (h x))) (on_number h w)) (sym (k x refl)) (itself (constant_form (h x)))

  grow_numbers : (h : ℚ → ℚ → ℚ) (p q p' q' : Option ℚ) → Keeps p p' → Keeps q q'
      → Grows (on_numbers h p q) (on_numbers h p' q')
  grow_numbers h None q p' q' k l = tt
  grow_numbers h (Some x) None p' q' k l = tt
  grow_numbers h (Some x) (Some y) p' q' k l =
      subst (λ (w : Option ℚ). Grows (Some (constant_form (h x y))) (on_numbers h w q')) (sym (k x refl)) (
      subst (λ (w : Option ℚ). Grows (Some (constant_form (h x y))) (on_numbers h (Some x) w)) (sym (l y refl)) (itself (constant_form (h x y))))

  grow_scaled : (k : ℚ) (f g : Linear) → Refines f g → Grows (Some (scaled_form k f)) (Some (scaled_form k g))
  grow_scaled k f g r = grown (scaled_form k f) (scaled_form k g) (λ a h. value_at-scaled_form a k f ∙ ap (λ s. k *ℚ s) (r.same a h) ∙ sym (value_at-scaled_form a k g))

  pub refines_sum : (f g f' g' : Linear) → Refines f f' → Refines g g' → Refines (sum_form f g) (sum_form f' g')
  refines_sum f g f' g' r s = record { same = λ a h. value_at-sum_form a f g ∙ ap₂ (λ x y. x +ℚ y) (r.same a h) (s.same a h) ∙ sym (value_at-sum_form a f' g') }

  pub refines_negated : (f g : Linear) → Refines f g → Refines (negated_form f) (negated_form g)
  refines_negated f g r = record { same = λ a h. value_at-negated_form a f ∙ ap neg_ℚ (r.same a h) ∙ sym (value_at-negated_form a g) }

  -- a product: where the left factor becomes a number too, the right one is still the one that multiplies
  grow_product : (f g f' g' : Linear) → Refines f f' → Refines g g' → (p q p' q' : Option ℚ) → number_of f ≡ p
      → number_of g' ≡ q' → Keeps p p' → Keeps q q' → Keeps p (number_of f')
      → Grows (product_form f p g q) (product_form f' p' g' q')
  grow_product f g f' g' r s p (Some y) p' q' e d k l m =
      subst (λ (w : Option ℚ). Grows (Some (scaled_form y f)) (product_form f' p' g' w)) (sym (l y refl)) (grow_scaled y f f' r)
  grow_product f g f' g' r s (Some x) None p' None e d k l m =
      subst (λ (w : Option ℚ). Grows (Some (scaled_form x g)) (product_form f' w g' None)) (sym (k x refl)) (grow_scaled x g g' s)
  grow_product f g f' g' r s (Some x) None p' (Some y) e d k l m =
      grown (scaled_form x g) (scaled_form y f') (λ a h.
      value_at-scaled_form a x g
      ∙ ap (λ z. x *ℚ z) (s.same a h ∙ value_of_number a g' y d)
      ∙ ring (x ∷ y ∷ []) (var 0 ⊗ var 1) (var 1 ⊗ var 0) refl
      ∙ ap (λ z. y *ℚ z) (sym (value_of_number a f' x (m x refl)))
      ∙ sym (value_at-scaled_form a y f'))
  grow_product f g f' g' r s None None p' q' e d k l m = tt

  grow_quotient : (f f' : Linear) → Refines f f' → (q q' : Option ℚ) → Keeps q q'
      → Grows (quotient_form f q) (quotient_form f' q')
  grow_quotient f f' r None q' l = tt
  grow_quotient f f' r (Some y) q' l = subst (λ (w : Option ℚ). Grows (quotient_form f (Some y)) (quotient_form f' w)) (sym (l y refl)) (go (is_zero y))
    where
      go : (b : Bool)
          → Grows (cond b None (Some (scaled_form (inv_ℚ y) f))) (cond b None (Some (scaled_form (inv_ℚ y) f')))
      go true = tt
      go false = grow_scaled (inv_ℚ y) f f' r

  grow_power : (f f' : Linear) → Refines f f' → (p p' : Option ℚ) (n n' : Option ℕ) → number_of f' ≡ p' → Keeps p p'
      → Keeps n n' → Grows (power_form f p n) (power_form f' p' n')
  grow_power f f' r p p' None n' e k l = tt
  grow_power f f' r (Some x) p' (Some n) n' e k l =
      subst (λ (w : Option ℕ). Grows (Some (constant_form (power x n))) (power_form f' p' w)) (sym (l n refl)) (
      subst (λ (w : Option ℚ). Grows (Some (constant_form (power x n))) (power_form f' w (Some n))) (sym (k x refl)) (itself (constant_form (power x n))))
  grow_power f f' r None p' (Some n) n' e k l = subst (λ (w : Option ℕ). Grows (power_form f None (Some n)) (power_form f' p' w)) (sym (l n refl)) (go p' e)
    where
      none : (b c : Bool)
          → Grows (cond b (Some (constant_form 1ℚ)) (cond c (Some f) None)) (cond b (Some (constant_form 1ℚ)) (cond c (Some f') None))
      none true c = itself (constant_form 1ℚ)
      none false true = (f', refl, r)
      none false false = tt

      first : (y : ℚ) → number_of f' ≡ Some y → Grows (Some f) (Some (constant_form (1ℚ *ℚ y)))
      first y d = grown f (constant_form (1ℚ *ℚ y)) (λ a h. r.same a h ∙ value_of_number a f' y d ∙ ring (y ∷ []) (var 0) (int (pos 1) ⊗ var 0) refl ∙ sym (value_at-constant_form a (1ℚ *ℚ y)))

      some : (y : ℚ) → number_of f' ≡ Some y → (b c : Bool) → (n == 0) ≡ b → (n == 1) ≡ c
          → Grows (cond b (Some (constant_form 1ℚ)) (cond c (Some f) None)) (Some (constant_form (power y n)))
      some y d true c h i = subst (λ (m : ℕ). Grows (Some (constant_form 1ℚ)) (Some (constant_form (power y m)))) (sym (nat_eq-same n 0 h)) (itself (constant_form 1ℚ))
      some y d false true h i = subst (λ (m : ℕ). Grows (Some f) (Some (constant_form (power y m)))) (sym (nat_eq-same n 1 i)) (first y d)
      some y d false false h i = tt

      go : (p' : Option ℚ) → number_of f' ≡ p' → Grows (power_of_form f n) (power_form f' p' (Some n))
      go None e = none (n == 0) (n == 1)
      go (Some y) e = some y e (n == 0) (n == 1) refl refl

  exponent_keeps : (p q : Option ℚ) → Keeps p q → Keeps (exponent_of p) (exponent_of q)
  exponent_keeps None q k n e = cc
  exponent_keeps (Some x) q k n e = subst (λ (w : Option ℚ). exponent_of w ≡ Some n) (sym (k x refl)) e

  grow_unary : (n : Option UnaryName) (o p : Option Linear) → Grows o p → GoodOption later p
      → Grows (unary_of n o) (unary_of n p)
  grow_unary None o p h g = tt
  grow_unary (Some n) None p h g = tt
  grow_unary (Some n) (Some f) p h good = subst (λ (w : Option Linear). Grows (unary_form n f) (unary_of (Some n) w)) (sym h.1) (by n (subst (λ (w : Option Linear). GoodOption later w) h.1 good))
    where
      by : (n : UnaryName) → Good later h.0 → Grows (unary_form n f) (unary_form n h.0)
      by Same g = (h.0, refl, h.2)
      by Opposite g = (negated_form h.0, refl, refines_negated f h.0 h.2)
      by Absolute g = grow_number (unary_value unary.Absolute) (number_of f) (number_of h.0) (stays_number f h.0 h.2 g)

  grow_binary : (n : Option BinaryName) (o p o' p' : Option Linear) → Grows o o' → Grows p p' → GoodOption later o'
      → GoodOption later p' → Grows (binary_of n o p) (binary_of n o' p')
  grow_binary None o p o' p' h k a b = tt
  grow_binary (Some n) None p o' p' h k a b = tt
  grow_binary (Some n) (Some f) None o' p' h k a b = tt
  grow_binary (Some n) (Some f) (Some g) o' p' h k a b =
      subst (λ (w : Option Linear). Grows (binary_form n f g) (binary_of (Some n) w p')) (sym h.1) (
      subst (λ (w : Option Linear). Grows (binary_form n f g) (binary_of (Some n) (Some h.0) w)) (sym k.1) (
      by n (subst (λ (w : Option Linear). GoodOption later w) h.1 a) (subst (λ (w : Option Linear). GoodOption later w) k.1 b)))
    where
      by : (n : BinaryName) → Good later h.0 → Good later k.0 → Grows (binary_form n f g) (binary_form n h.0 k.0)
      by Plus x y = (sum_form h.0 k.0, refl, refines_sum f g h.0 k.0 h.2 k.2)
      by Minus x y = (sum_form h.0 (negated_form k.0), refl, refines_sum f (negated_form g) h.0 (negated_form k.0) h.2 (refines_negated g k.0 k.2))
      by Times x y =
          grow_product f g h.0 k.0 h.2 k.2 (number_of f) (number_of g) (number_of h.0) (number_of k.0) refl refl (stays_number f h.0 h.2 x) (stays_number g k.0 k.2 y) (stays_number f h.0 h.2 x)
      by Over x y = grow_quotient f h.0 h.2 (number_of g) (number_of k.0) (stays_number g k.0 k.2 y)
      by Power x y =
          grow_power f h.0 h.2 (number_of f) (number_of h.0) (exponent_of (number_of g)) (exponent_of (number_of k.0)) refl (stays_number f h.0 h.2 x)
          (exponent_keeps (number_of g) (number_of k.0) (stays_number g k.0 k.2 y))
      by Least x y = grow_numbers least (number_of f) (number_of g) (number_of h.0) (number_of k.0) (stays_number f h.0 h.2 x) (stays_number g k.0 k.2 y)
      by Greatest x y = grow_numbers greatest (number_of f) (number_of g) (number_of h.0) (number_of k.0) (stays_number f h.0 h.2 x) (stays_number g k.0 k.2 y)

  -- from earlier values, which the later ones keep
  module _ (earlier : ℕ → Option ℚ) (kept : (x : ℕ) (q : ℚ) → earlier x ≡ Some q → later x ≡ Some q) where
    was_free : (x : ℕ) (p : Option ℚ) → later x ≡ p → Grows (Some (variable_form x)) (Some (variable_under p x))
    was_free x None d = itself (variable_form x)
    was_free x (Some q) d = grown (variable_form x) (constant_form q) (λ a h. value_at-variable_form a x ∙ h x q d ∙ sym (value_at-constant_form a q))

    was_fixed : (x : ℕ) (q : ℚ) → earlier x ≡ Some q
        → Grows (Some (constant_form q)) (Some (variable_under (later x) x))
    was_fixed x q e = subst (λ (p : Option ℚ). Grows (Some (constant_form q)) (Some (variable_under p x))) (sym (kept x q e)) (itself (constant_form q))

    variable_by : (x : ℕ) (o : Option ℚ) → earlier x ≡ o
        → Grows (Some (variable_under o x)) (Some (variable_under (later x) x))
    variable_by x None e = was_free x (later x) refl
    variable_by x (Some q) e = was_fixed x q e

    grow_variable : (x : ℕ) → Grows (Some (variable_under (earlier x) x)) (Some (variable_under (later x) x))
    grow_variable x = variable_by x (earlier x) refl

    pub form_grows : (t : Tree) → Grows (form_of earlier t) (form_of later t)
    form_grows (Var x) = grow_variable x
    form_grows (Number q) = itself (constant_form q)
    form_grows (Name a) = tt
    form_grows (Compound f (one a)) = grow_unary (unary_name f) (form_of earlier a) (form_of later a) (form_grows a) (form_good later a)
    form_grows (Compound f (more a (one b))) =
        grow_binary (binary_name f) (form_of earlier a) (form_of earlier b) (form_of later a) (form_of later b) (form_grows a) (form_grows b) (form_good later a) (form_good later b)
    form_grows (Compound f (more a (more b ts))) = tt
