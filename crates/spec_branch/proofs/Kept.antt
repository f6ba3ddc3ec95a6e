-- The form of an expression is a form, and looks at no variable that has a fixed value.
use Rattle.std.proofs.Common.{List, [], ◌∷◌, ◌≡◌, ℕ, Bool, true, false, cond, Option, None, Some, refl, ap, ap₂, sym, ◌∙◌}
use Rattle.std.specs.Prelude.{◌==◌, ⊤}
use Rattle.spec_numbers.specs.Rational.{ℚ, 1ℚ, ◌+ℚ◌, ◌*ℚ◌, neg_ℚ, inv_ℚ}
use Rattle.spec_numbers.specs.Sums.{Monomial}
use Rattle.spec_linear.specs.Form.{is_empty, Linear, value_at, IsForm, is_zero, constant_form, sum_form, scaled_form, negated_form}
use Rattle.spec_linear.proofs.Values.{value_at-constant_form, value_at-variable_form, value_at-sum_form, value_at-scaled_form, value_at-negated_form}
use Rattle.spec_linear.proofs.Ordered.{form_same, IsForm-variable_form, IsForm-sum_form, IsForm-scaled_form, IsForm-negated_form}
use Rattle.spec_terms.specs.Term.{Var, Number, Name, Compound, one, more}
use Rattle.spec_syntax.specs.Trees.{Tree}
use Rattle.spec_terms.specs.Operations.{unary_value, least, greatest}
use Rattle.spec_terms.specs.declared.arithmetic.UnaryOperation.TheVariants as unary
use Rattle.spec_branch.specs.Expressions.{UnaryName, Same, Opposite, Absolute, BinaryName, Plus, Minus, Times, Over, Power, Least, Greatest, unary_name, binary_name, number_of, on_number, on_numbers, product_form, quotient_form, exponent_of, power_form, variable_under, unary_of, binary_of, form_of}

-- a form that is a number
pub is_constant_form : (f : Linear) (k : ℚ) → number_of f ≡ Some k → f ≡ constant_form k
is_constant_form f k e = go f.products refl e
  where
    go : (s : List Monomial) → f.products ≡ s → cond (is_empty s) (Some f.constant) None ≡ Some k
        → f ≡ constant_form k
    go [] p h =
        let c : f.constant ≡ k = cc in
        form_same f (constant_form k) p c
    go (m ∷ s) p h = cc

pub value_of_number : (a : ℕ → ℚ) (f : Linear) (k : ℚ) → number_of f ≡ Some k → value_at a f ≡ k
value_of_number a f k e = ap (value_at a) (is_constant_form f k e) ∙ value_at-constant_form a k

module _ (fixed : ℕ → Option ℚ) where
  -- a form whose value depends on the variables without a fixed value alone
  pub record Good (f : Linear) : Type 0 where
    pub form : IsForm f
    pub looks : (a b : ℕ → ℚ) → ((x : ℕ) → fixed x ≡ None → a x ≡ b x) → value_at a f ≡ value_at b f

  abbrev pub GoodOption : Option Linear → Type 0
  GoodOption None = ⊤
  GoodOption (Some f) = Good f

  good_constant : (q : ℚ) → Good (constant_form q)
  good_constant q = record { form = tt; looks = λ a b h. refl }

  good_sum : (f g : Linear) → Good f → Good g → Good (sum_form f g)
  good_sum f g h k = record {
    form = IsForm-sum_form f g h.form k.form;
    looks = λ a b e. value_at-sum_form a f g ∙ ap₂ (λ p q. p +ℚ q) (h.looks a b e) (k.looks a b e) ∙ sym (value_at-sum_form b f g);
  }

  good_scaled : (k : ℚ) (f : Linear) → Good f → Good (scaled_form k f)
  good_scaled k f h = record {
    form = IsForm-scaled_form k f h.form;
    looks = λ a b e. value_at-scaled_form a k f ∙ ap (λ q. k *ℚ q) (h.looks a b e) ∙ sym (value_at-scaled_form b k f);
  }

  good_negated : (f : Linear) → Good f → Good (negated_form f)
  good_negated f h = record {
    form = IsForm-negated_form f h.form;
    looks = λ a b e. value_at-negated_form a f ∙ ap neg_ℚ (h.looks a b e) ∙ sym (value_at-negated_form b f);
  }

  good_number : (h : ℚ → ℚ) (p : Option ℚ) → GoodOption (on_number h p)
  good_number h None = tt
  good_number h (Some q) = good_constant (h q)

  good_numbers : (h : ℚ → ℚ → ℚ) (p q : Option ℚ) → GoodOption (on_numbers h p q)
  good_numbers h None q = tt
  good_numbers h (Some p) None = tt
  good_numbers h (Some p) (Some q) = good_constant (h p q)

  good_product : (f g : Linear) (p q : Option ℚ) → Good f → Good g → GoodOption (product_form f p g q)
  good_product f g p (Some q) a b = good_scaled q f a
  good_product f g (Some p) None a b = good_scaled p g b
  good_product f g None None a b = tt

  good_quotient : (f : Linear) (q : Option ℚ) → Good f → GoodOption (quotient_form f q)
  good_quotient f None a = tt
  good_quotient f (Some q) a = go (is_zero q)
    where
      go : (b : Bool) → GoodOption (cond b None (Some (scaled_form (inv_ℚ q) f)))
      go true = tt
      go false = good_scaled (inv_ℚ q) f a

  good_power : (f : Linear) (p : Option ℚ) (n : Option ℕ) → Good f → GoodOption (power_form f p n)
  good_power f p None a = tt
  good_power f (Some q) (Some n) a = good_constant _
  good_power f None (Some n) a = go (n == 0) (n == 1)
    where
      go : (b c : Bool) → GoodOption (cond b (Some (constant_form 1ℚ)) (cond c (Some f) None))
      go true c = good_constant 1ℚ
      go false true = a
      go false false = tt

  good_unary : (n : Option UnaryName) (o : Option Linear) → GoodOption o → GoodOption (unary_of n o)
  good_unary None o a = tt
  good_unary (Some n) None a = tt
  good_unary (Some Same) (Some f) a = a
  good_unary (Some Opposite) (Some f) a = good_negated f a
  good_unary (Some Absolute) (Some f) a = good_number (unary_value unary.Absolute) (number_of f)

  good_binary : (n : Option BinaryName) (o p : Option Linear) → GoodOption o → GoodOption p
      → GoodOption (binary_of n o p)
  good_binary None o p a b = tt
  good_binary (Some n) None p a b = tt
  good_binary (Some n) (Some f) None a b = tt
  good_binary (Some Plus) (Some f) (Some g) a b = good_sum f g a b
  good_binary (Some Minus) (Some f) (Some g) a b = good_sum f (negated_form g) a (good_negated g b)
  good_binary (Some Times) (Some f) (Some g) a b = good_product f g (number_of f) (number_of g) a b
  good_binary (Some Over) (Some f) (Some g) a b = good_quotient f (number_of g) a
  good_binary (Some Power) (Some f) (Some g) a b = good_power f (number_of f) (exponent_of (number_of g)) a
  good_binary (Some Least) (Some f) (Some g) a b = good_numbers least (number_of f) (number_of g)
  good_binary (Some Greatest) (Some f) (Some g) a b = good_numbers greatest (number_of f) (number_of g)

  good_variable : (x : ℕ) → Good (variable_under (fixed x) x)
  good_variable x = go (fixed x) refl
    where
      go : (o : Option ℚ) → fixed x ≡ o → Good (variable_under o x)
      go None e = record { form = IsForm-variable_form x; looks = λ a b h. value_at-variable_form a x ∙ h x e ∙ sym (value_at-variable_form b x) }
      go (Some q) e = good_constant q

  pub form_good : (t : Tree) → GoodOption (form_of fixed t)
  form_good (Var x) = good_variable x
  form_good (Number q) = good_constant q
  form_good (Name a) = tt
  form_good (Compound f (one a)) = good_unary (unary_name f) (form_of fixed a) (form_good a)
  form_good (Compound f (more a (one b))) = good_binary (binary_name f) (form_of fixed a) (form_of fixed b) (form_good a) (form_good b)
  form_good (Compound f (more a (more b ts))) = tt
