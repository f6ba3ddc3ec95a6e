-- An equation that a solvable list entails holds wherever the list's other constraints than disequations do.
use Rattle.std.proofs.Common.{ℕ, List, [], ◌∷◌}
use Rattle.spec_numbers.specs.Rational.{ℚ}
use Rattle.spec_numbers.proofs.Sign.{pos_nonneg}
use Rattle.spec_linear.specs.declared.Relation.{Relation}
use Rattle.spec_linear.specs.declared.Relation.TheVariants.{Eq, Gt, Ge, Ne}
use Rattle.spec_linear.specs.Form.{Linear}
use Rattle.spec_linear.specs.Solution.{Constraint, HoldsAt, Satisfies, Solvable, Entails, equal_zero}
use Rattle.spec_linear.proofs.Lists.{entails_same}
use Rattle.spec_linear.specs.Weak.{with_weak, weak}
use Rattle.spec_simplex.specs.LimitsDictionary.{in_front_unless_disequation, without_disequations}
use Rattle.spec_projection.proofs.Members.{satisfies_all}
use Rattle.spec_projection.proofs.Disguised.{whole, entailed_equations}

module _ (v : ℕ → ℚ) where
  weaker : (r : Relation) (f : Linear) (s t : List Constraint) → Satisfies v (in_front_unless_disequation r (record { relation = r; form = f }) s)
      → (Satisfies v s → Satisfies v t) → Satisfies v (with_weak r f t)
  weaker Eq f s t h k = (h.0, k h.1)
  weaker Gt f s t h k = (pos_nonneg h.0, k h.1)
  weaker Ge f s t h k = (h.0, k h.1)
  weaker Ne f s t h k = k h

  weakly : (l : List Constraint) → Satisfies v (without_disequations l) → Satisfies v (weak l)
  weakly [] h = tt
  weakly (c ∷ l) h = weaker c.relation c.form (without_disequations l) (weak l) h (weakly l)

pub holds_without : (l : List Constraint) → Solvable l → (f : Linear) → Entails l (equal_zero f) → (v : ℕ → ℚ) → Satisfies v (without_disequations l) → HoldsAt v (equal_zero f)
holds_without l s f h v w =
    (entails_same (whole l).equal (equal_zero f)).0 (entailed_equations l s f h) v
    (satisfies_all v (whole l).equal (λ c i. (whole l).holds v (weakly v l w) c i))
