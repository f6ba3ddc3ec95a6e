-- Putting solved equations into constraints changes nothing where the equations hold, and takes their variables out.
use Rattle.std.proofs.Common.{◌≡◌, ◌↔◌, ℕ, List, [], ◌∷◌, ◌++◌, refl, ap, sym, subst, ◌∙◌}
use Rattle.std.specs.Prelude.{map}
use Rattle.spec_numbers.specs.Rational.{ℚ}
use Rattle.spec_numbers.specs.Sums.{factor_of}
use Rattle.spec_numbers.proofs.RationalLemmas.{add_comm}
use Rattle.spec_linear.specs.Form.{Linear, value_at, changed_at, without, scaled_form}
use Rattle.spec_linear.specs.Solution.{Constraint, Meets, Satisfies, Equivalent, number}
use Rattle.spec_linear.proofs.Values.{value_at-sum_form, value_at-substituted_form}
use Rattle.spec_linear.proofs.Points.{solves_same}
use Rattle.spec_linear.specs.Echelon.{Solved, equations}
use Rattle.spec_linear.proofs.Filled.{equation-says, value_at-agrees}
use Rattle.spec_projection.specs.Substitution.{with_form_of, with_forms_of, put_into}
use Rattle.spec_projection.proofs.Members.{satisfies_parts, satisfies_both}
use Rattle.spec_projection.proofs.Projected.{changed_to_itself}

-- as the substituted form, its two parts in the other order
pub value_at-with_form_of : (a : ℕ → ℚ) (e : Solved) (f : Linear) → value_at a (with_form_of e f) ≡ value_at (changed_at e.variable (value_at a e.form) a) f
value_at-with_form_of a e f =
    let one : Linear = scaled_form (factor_of e.variable f.products) e.form in
    let two : Linear = record { products = without e.variable f.products; constant = f.constant } in
    value_at-sum_form a one two ∙ add_comm (value_at a one) (value_at a two) ∙ sym (value_at-sum_form a two one) ∙ value_at-substituted_form a e.variable e.form f

pub with_form_of-same : (a : ℕ → ℚ) (e : Solved) (f : Linear) → a e.variable ≡ value_at a e.form → value_at a (with_form_of e f) ≡ value_at a f
with_form_of-same a e f h =
    value_at-with_form_of a e f ∙ ap (λ q. value_at (changed_at e.variable q a) f) (sym h)
    ∙ value_at-agrees (changed_at e.variable (a e.variable) a) a f (λ y m. changed_to_itself a e.variable y)

pub with_forms_of-same : (a : ℕ → ℚ) (es : List Solved) (f : Linear) → Satisfies a (equations es) → value_at a (with_forms_of es f) ≡ value_at a f
with_forms_of-same a [] f s = refl
with_forms_of-same a (e ∷ es) f s = with_forms_of-same a es (with_form_of e f) s.1 ∙ with_form_of-same a e f (equation-says a e s.0)

pub put_into-same : (a : ℕ → ℚ) (es : List Solved) (l : List Constraint) → Satisfies a (equations es) → Satisfies a (map (put_into es) l) ↔ Satisfies a l
put_into-same a es [] s = ((λ h. tt), (λ h. tt))
put_into-same a es (c ∷ l) s =
    let e = with_forms_of-same a es c.form s in
    let r = put_into-same a es l s in (
      (λ h. (subst (Meets c.relation) e h.0, r.0 h.1)),
      (λ h. (subst (Meets c.relation) (sym e) h.0, r.1 h.1)),
    )

pub put_into-alike : (es : List Solved) (l : List Constraint) → Equivalent (equations es ++ map (put_into es) l) (equations es ++ l)
put_into-alike es l p =
    let a = number p in (
      (λ s.
          let k = satisfies_parts a (equations es) (map (put_into es) l) ((solves_same p (equations es ++ map (put_into es) l)).0 s) in
          (solves_same p (equations es ++ l)).1 (satisfies_both a (equations es) l k.0 ((put_into-same a es l k.0).0 k.1))),
      (λ s.
          let k = satisfies_parts a (equations es) l ((solves_same p (equations es ++ l)).0 s) in
          (solves_same p (equations es ++ map (put_into es) l)).1 (satisfies_both a (equations es) (map (put_into es) l) k.0 ((put_into-same a es l k.0).1 k.1))),
    )
