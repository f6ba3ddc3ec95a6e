-- The linear form of an expression has the expression's value, and an expression whose variables have fixed values is its value.
use Rattle.std.proofs.Common.{◌≡◌, ℕ, pos, [], ◌∷◌, Bool, true, false, cond, Option, None, Some, refl, sym, ap, ap₂, ◌∙◌, subst, inl, inr}
use Rattle.std.specs.Prelude.{◌==◌, ⊤}
use Rattle.spec_numbers.specs.Rational.{ℚ, 1ℚ, ◌+ℚ◌, ◌*ℚ◌, neg_ℚ, inv_ℚ}
use Rattle.spec_numbers.proofs.Ring.{var, int, ◌⊗◌}
use Rattle.spec_numbers.proofs.RationalLemmas.{ring, mul_comm}
use Rattle.spec_linear.specs.Form.{Linear, value_at, is_zero, constant_form, scaled_form}
use Rattle.spec_linear.proofs.Values.{value_at-constant_form, value_at-variable_form, value_at-sum_form, value_at-scaled_form, value_at-negated_form, value_at-difference_form}
use Rattle.spec_numbers.proofs.Tests.{nat_eq-same}
use Rattle.spec_terms.specs.Term.{Var, Number, Name, Compound, one, more, Occurs}
use Rattle.spec_syntax.specs.Trees.{Tree}
use Rattle.spec_terms.specs.Operations.{unary_value, least, greatest}
use Rattle.spec_terms.specs.declared.arithmetic.UnaryOperation.TheVariants as unary
use Rattle.spec_branch.specs.Expressions.{UnaryName, Same, Opposite, Absolute, BinaryName, Plus, Minus, Times, Over, Power, Least, Greatest, unary_name, binary_name, number_of, on_number, on_numbers, unary_form, product_form, quotient_form, exponent_of, power, power_form, binary_form, variable_under, unary_of, binary_of, form_of}
use Rattle.spec_branch.specs.Values.{value_of_unary, value_of_quotient, value_of_power, value_of_binary, unary_at, binary_at, value_of, Agrees}
use Rattle.spec_branch.proofs.Kept.{value_of_number}

-- ---- a form has the value

module _ (a : ℕ → ℚ) where
  -- where there is a form, the value is the form's
  abbrev Matches : Option Linear → Option ℚ → Type 0
  Matches None v = ⊤
  Matches (Some f) v = v ≡ Some (value_at a f)

  to_value : (f : Linear) (p q : ℚ) → p ≡ q → q ≡ value_at a f → Some p ≡ Some (value_at a f)
  to_value f p q d e = ap (λ (x : ℚ). Some x) (d ∙ e)

  by_number : (h : ℚ → ℚ) (f : Linear) (o : Option ℚ) → number_of f ≡ o
      → Matches (on_number h o) (Some (h (value_at a f)))
  by_number h f None e = tt
  by_number h f (Some q) e = to_value (constant_form (h q)) (h (value_at a f)) (h q) (ap h (value_of_number a f q e)) (sym (value_at-constant_form a (h q)))

  by_numbers : (h : ℚ → ℚ → ℚ) (f g : Linear) (o p : Option ℚ) → number_of f ≡ o → number_of g ≡ p
      → Matches (on_numbers h o p) (Some (h (value_at a f) (value_at a g)))
  by_numbers h f g None p d e = tt
  by_numbers h f g (Some x) None d e = tt
  by_numbers h f g (Some x) (Some y) d e =
      to_value (constant_form (h x y)) (h (value_at a f) (value_at a g)) (h x y) (ap₂ h (value_of_number a f x d) (value_of_number a g y e)) (sym (value_at-constant_form a (h x y)))

  by_product : (f g : Linear) (o p : Option ℚ) → number_of f ≡ o → number_of g ≡ p
      → Matches (product_form f o g p) (Some (value_at a f *ℚ value_at a g))
  by_product f g o (Some y) d e =
      to_value (scaled_form y f) (value_at a f *ℚ value_at a g) (y *ℚ value_at a f) (mul_comm (value_at a f) (value_at a g) ∙ ap (λ (x : ℚ). x *ℚ value_at a f) (value_of_number a g y e)) (sym (value_at-scaled_form a y f))
  by_product f g (Some x) None d e =
      to_value (scaled_form x g) (value_at a f *ℚ value_at a g) (x *ℚ value_at a g) (ap (λ (y : ℚ). y *ℚ value_at a g) (value_of_number a f x d)) (sym (value_at-scaled_form a x g))
  by_product f g None None d e = tt

  by_quotient : (f g : Linear) (o : Option ℚ) → number_of g ≡ o
      → Matches (quotient_form f o) (value_of_quotient (value_at a f) (value_at a g))
  by_quotient f g None e = tt
  by_quotient f g (Some y) e =
      subst (λ (x : ℚ). Matches (quotient_form f (Some y)) (value_of_quotient (value_at a f) x)) (sym (value_of_number a g y e)) (go (is_zero y))
    where
      go : (b : Bool)
          → Matches (cond b None (Some (scaled_form (inv_ℚ y) f))) (cond b None (Some (value_at a f *ℚ inv_ℚ y)))
      go true = tt
      go false = to_value (scaled_form (inv_ℚ y) f) (value_at a f *ℚ inv_ℚ y) (inv_ℚ y *ℚ value_at a f) (mul_comm (value_at a f) (inv_ℚ y)) (sym (value_at-scaled_form a (inv_ℚ y) f))

  first_power : (q : ℚ) → power q 1 ≡ q
  first_power q = ring (q ∷ []) (int (pos 1) ⊗ var 0) (var 0) refl

  by_power : (f : Linear) (o : Option ℚ) (n : Option ℕ) → number_of f ≡ o
      → Matches (power_form f o n) (value_of_power (value_at a f) n)
  by_power f o None e = tt
  by_power f (Some x) (Some n) e =
      to_value (constant_form (power x n)) (power (value_at a f) n) (power x n) (ap (λ (y : ℚ). power y n) (value_of_number a f x e)) (sym (value_at-constant_form a (power x n)))
  by_power f None (Some n) e = go (n == 0) (n == 1) refl refl
    where
      go : (b c : Bool) → (n == 0) ≡ b → (n == 1) ≡ c
          → Matches (cond b (Some (constant_form 1ℚ)) (cond c (Some f) None)) (Some (power (value_at a f) n))
      go true c h i = to_value (constant_form 1ℚ) (power (value_at a f) n) 1ℚ (ap (power (value_at a f)) (nat_eq-same n 0 h)) (sym (value_at-constant_form a 1ℚ))
      go false true h i = to_value f (power (value_at a f) n) (value_at a f) (ap (power (value_at a f)) (nat_eq-same n 1 i) ∙ first_power (value_at a f)) refl
      go false false h i = tt

  by_unary : (n : Option UnaryName) (o : Option Linear) (v : Option ℚ) → Matches o v
      → Matches (unary_of n o) (unary_at n v)
  by_unary None o v h = tt
  by_unary (Some n) None v h = tt
  by_unary (Some n) (Some f) v h = subst (λ (w : Option ℚ). Matches (unary_form n f) (unary_at (Some n) w)) (sym h) (go n)
    where
      go : (n : UnaryName) → Matches (unary_form n f) (Some (value_of_unary n (value_at a f)))
      go Same = refl
      go Opposite = ap (λ (x : ℚ). Some x) (sym (value_at-negated_form a f))
      go Absolute = by_number (unary_value unary.Absolute) f (number_of f) refl

  by_binary : (n : Option BinaryName) (o p : Option Linear) (v w : Option ℚ) → Matches o v → Matches p w
      → Matches (binary_of n o p) (binary_at n v w)
  by_binary None o p v w h k = tt
  by_binary (Some n) None p v w h k = tt
  by_binary (Some n) (Some f) None v w h k = tt
  by_binary (Some n) (Some f) (Some g) v w h k =
      subst (λ (x : Option ℚ). Matches (binary_form n f g) (binary_at (Some n) x w)) (sym h) (
      subst (λ (x : Option ℚ). Matches (binary_form n f g) (binary_at (Some n) (Some (value_at a f)) x)) (sym k) (go n))
    where
      by_exponent : (o : Option ℚ) → number_of g ≡ o
          → Matches (power_form f (number_of f) (exponent_of o)) (value_of_power (value_at a f) (exponent_of (Some (value_at a g))))
      by_exponent None e = tt
      by_exponent (Some y) e =
          subst (λ (x : ℚ). Matches (power_form f (number_of f) (exponent_of (Some y))) (value_of_power (value_at a f) (exponent_of (Some x)))) (sym (value_of_number a g y e)) (by_power f (number_of f) (exponent_of (Some y)) refl)

      go : (n : BinaryName) → Matches (binary_form n f g) (value_of_binary n (value_at a f) (value_at a g))
      go Plus = ap (λ (x : ℚ). Some x) (sym (value_at-sum_form a f g))
      go Minus = ap (λ (x : ℚ). Some x) (sym (value_at-difference_form a f g))
      go Times = by_product f g (number_of f) (number_of g) refl refl
      go Over = by_quotient f g (number_of g) refl
      go Power = by_exponent (number_of g) refl
      go Least = by_numbers least f g (number_of f) (number_of g) refl refl
      go Greatest = by_numbers greatest f g (number_of f) (number_of g) refl refl

  module _ (fixed : ℕ → Option ℚ) (agrees : Agrees fixed a) where
    by_variable : (x : ℕ) (o : Option ℚ) → fixed x ≡ o → Matches (Some (variable_under o x)) (Some (a x))
    by_variable x None e = ap (λ (q : ℚ). Some q) (sym (value_at-variable_form a x))
    by_variable x (Some q) e = to_value (constant_form q) (a x) q (agrees x q e) (sym (value_at-constant_form a q))

    form_matches : (t : Tree) → Matches (form_of fixed t) (value_of a t)
    form_matches (Var x) = by_variable x (fixed x) refl
    form_matches (Number q) = ap (λ (x : ℚ). Some x) (sym (value_at-constant_form a q))
    form_matches (Name n) = tt
    form_matches (Compound f (one t)) = by_unary (unary_name f) (form_of fixed t) (value_of a t) (form_matches t)
    form_matches (Compound f (more t (one u))) = by_binary (binary_name f) (form_of fixed t) (form_of fixed u) (value_of a t) (value_of a u) (form_matches t) (form_matches u)
    form_matches (Compound f (more t (more u us))) = tt

    pub form_value : (e : Tree) (f : Linear) → form_of fixed e ≡ Some f → value_of a e ≡ Some (value_at a f)
    form_value e f h = subst (λ (o : Option Linear). Matches o (value_of a e)) h (form_matches e)

-- ---- an expression whose variables have fixed values

module _ (fixed : ℕ → Option ℚ) (a : ℕ → ℚ) (agrees : Agrees fixed a) where
  -- it is the number that it is worth
  abbrev IsWorth : Option Linear → Option ℚ → Type 0
  IsWorth o v = (q : ℚ) → v ≡ Some q → o ≡ Some (constant_form q)

  worth_quotient : (p q : ℚ) → IsWorth (quotient_form (constant_form p) (Some q)) (value_of_quotient p q)
  worth_quotient p q = go (is_zero q)
    where
      go : (b : Bool)
          → IsWorth (cond b None (Some (scaled_form (inv_ℚ q) (constant_form p)))) (cond b None (Some (p *ℚ inv_ℚ q)))
      go true r e = cc
      go false r e =
          let d : p *ℚ inv_ℚ q ≡ r = cc in
          ap (λ (x : ℚ). Some (constant_form x)) (mul_comm (inv_ℚ q) p ∙ d)

  worth_power : (p : ℚ) (n : Option ℕ) → IsWorth (power_form (constant_form p) (Some p) n) (value_of_power p n)
  worth_power p None r e = cc
  worth_power p (Some n) r e =
      let d : power p n ≡ r = cc in
      ap (λ (x : ℚ). Some (constant_form x)) d

  worth : (x y q : ℚ) → Some x ≡ Some q → y ≡ x → Some (constant_form y) ≡ Some (constant_form q)
  worth x y q e d =
      let f : x ≡ q = cc in
      ap (λ (z : ℚ). Some (constant_form z)) (d ∙ f)

  worth_unary : (n : Option UnaryName) (o : Option Linear) (v : Option ℚ) → IsWorth o v
      → IsWorth (unary_of n o) (unary_at n v)
  worth_unary None o v h q e = cc
  worth_unary (Some n) o None h q e = cc
  worth_unary (Some n) o (Some p) h q e = ap (unary_of (Some n)) (h p refl) ∙ go n e
    where
      go : (n : UnaryName) → Some (value_of_unary n p) ≡ Some q
          → unary_form n (constant_form p) ≡ Some (constant_form q)
      go Same e = worth p p q e refl
      go Opposite e = worth (neg_ℚ p) (neg_ℚ p) q e refl
      go Absolute e = worth (unary_value unary.Absolute p) (unary_value unary.Absolute p) q e refl

  worth_binary : (n : Option BinaryName) (o p : Option Linear) (v w : Option ℚ) → IsWorth o v → IsWorth p w
      → IsWorth (binary_of n o p) (binary_at n v w)
  worth_binary None o p v w h k q e = cc
  worth_binary (Some n) o p None w h k q e = cc
  worth_binary (Some n) o p (Some x) None h k q e = cc
  worth_binary (Some n) o p (Some x) (Some y) h k q e = ap₂ (binary_of (Some n)) (h x refl) (k y refl) ∙ go n e
    where
      go : (n : BinaryName) → value_of_binary n x y ≡ Some q
          → binary_form n (constant_form x) (constant_form y) ≡ Some (constant_form q)
      go Plus e = worth (x +ℚ y) (x +ℚ y) q e refl
      go Minus e = worth (x +ℚ neg_ℚ y) (x +ℚ neg_ℚ y) q e refl
      go Times e = worth (x *ℚ y) (y *ℚ x) q e (mul_comm y x)
      go Over e = worth_quotient x y q e
      go Power e = worth_power x (exponent_of (Some y)) q e
      go Least e = worth (least x y) (least x y) q e refl
      go Greatest e = worth (greatest x y) (greatest x y) q e refl

  -- each variable of the term has a fixed value
  abbrev pub AllFixed : Tree → Type 0
  AllFixed t = (x : ℕ) → Occurs x t → (q : ℚ) × (fixed x ≡ Some q)

  pub fixed_worth : (t : Tree) → AllFixed t → IsWorth (form_of fixed t) (value_of a t)
  fixed_worth (Var x) h q e =
      let k : (r : ℚ) × (fixed x ≡ Some r) = h x refl in
      let d : a x ≡ k.0 = agrees x k.0 k.1 in
      ap (λ (o : Option ℚ). Some (variable_under o x)) k.1 ∙ worth (a x) k.0 q e (sym d)
  fixed_worth (Number p) h q e = worth p p q e refl
  fixed_worth (Name n) h q e = cc
  fixed_worth (Compound f (one t)) h q e = worth_unary (unary_name f) (form_of fixed t) (value_of a t) (fixed_worth t h) q e
  fixed_worth (Compound f (more t (one u))) h q e =
      worth_binary (binary_name f) (form_of fixed t) (form_of fixed u) (value_of a t) (value_of a u) (fixed_worth t (λ x o. h x (inl o))) (fixed_worth u (λ x o. h x (inr o))) q e
  fixed_worth (Compound f (more t (more u us))) h q e = cc
