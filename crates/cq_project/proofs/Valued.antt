-- The values of variables that solved equations give, and of forms into which the equations are put.
use Rattle.std.proofs.Common.{◌≡◌, ℕ, List, [], ◌∷◌, nat_eq, cond, refl, ap, sym, ◌∙◌}
use Rattle.std.specs.List.{AllByRecursion}
use Rattle.spec_numbers.specs.Rational.{ℚ}
use Rattle.spec_numbers.specs.Sums.{Monomial}
use Rattle.spec_linear.specs.Form.{Linear, IsForm, value_at, changed_at}
use Rattle.spec_linear.specs.Solution.{Has}
use Rattle.spec_linear.proofs.Ordered.{forms_same}
use Rattle.spec_linear.specs.Echelon.{Solved, MentionsNone, solved_variables}
use Rattle.spec_linear.proofs.Filled.{value_at-agrees}
use Rattle.spec_projection.specs.Substitution.{with_form_of, with_forms_of, AreReduced}
use Rattle.spec_projection.proofs.Filled.{filled, filled-free, free_variable}
use Rattle.spec_projection.proofs.Free.{IsForm-with_forms_of}
use Rattle.spec_projection.proofs.PutInto.{value_at-with_form_of}
use Rattle.cq_project.specs.Putting.{value_of, AreAlike, no_equation, one_equation}

-- ---- equations that are alike
pub alike_values : (k l : List Solved) → AreAlike k l → (a : ℕ → ℚ) (x : ℕ) → value_of k a x ≡ value_of l a x
alike_values _ _ no_equation a x = refl
alike_values _ _ (one_equation {d = d} {e = e} {k = k} {l = l} v h t) a x =
    ap (λ y. cond (nat_eq y x) (value_at a d.form) (value_of k a x)) v
    ∙ ap (λ q. cond (nat_eq e.variable x) q (value_of k a x)) (h a)
    ∙ ap (λ q. cond (nat_eq e.variable x) (value_at a e.form) q) (alike_values k l t a x)

pub alike_forms : (k l : List Solved) → AreAlike k l → (a : ℕ → ℚ) (f : Linear) → value_at (value_of k a) f ≡ value_at (value_of l a) f
alike_forms k l h a f = value_at-agrees (value_of k a) (value_of l a) f (λ x m. alike_values k l h a x)

-- ---- what forms become
value_is : (es : List Solved) (a : ℕ → ℚ) (x : ℕ) → value_of es a x ≡ filled es a x
value_is [] a x = refl
value_is (e ∷ es) a x = ap (λ q. cond (nat_eq e.variable x) (value_at a e.form) q) (value_is es a x)

value_free : (es : List Solved) (a : ℕ → ℚ) (x : ℕ) → (Has x (solved_variables es) → ⊥) → value_of es a x ≡ a x
value_free es a x n = value_is es a x ∙ filled-free es a x n

module _ (all : List Solved) where
  put_in : (es : List Solved) → ((s : List Monomial) → MentionsNone all s → MentionsNone es s) → AllByRecursion (λ e. MentionsNone all e.form.products) es
      → (a : ℕ → ℚ) (f : Linear) → value_at a (with_forms_of es f) ≡ value_at (value_of es a) f
  put_in [] i r a f = refl
  put_in (e ∷ es) i r a f =
      let none : MentionsNone es e.form.products = (i e.form.products r.0).1 in
      put_in es (λ s n. (i s n).1) r.1 a (with_form_of e f)
      ∙ value_at-with_form_of (value_of es a) e f
      ∙ ap (λ q. value_at (changed_at e.variable q (value_of es a)) f)
      (value_at-agrees (value_of es a) a e.form (λ y m. value_free es a y (free_variable es e.form.products none y m)))

pub put_in_values : (es : List Solved) → AreReduced es → (a : ℕ → ℚ) (f : Linear) → value_at a (with_forms_of es f) ≡ value_at (value_of es a) f
put_in_values es r a f = put_in es es (λ s n. n) r.reduced a f

-- so a form with these values is that form
pub put_in_form : (es : List Solved) → AreReduced es → (f g : Linear) → IsForm f → IsForm g → ((a : ℕ → ℚ) → value_at a g ≡ value_at (value_of es a) f) → g ≡ with_forms_of es f
put_in_form es r f g i j h = forms_same g (with_forms_of es f) j (IsForm-with_forms_of es f i) (λ a. h a ∙ sym (put_in_values es r a f))
