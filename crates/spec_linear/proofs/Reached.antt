-- A form has one supremum, or none where it is unbounded, and lists with the same solutions have the same.
use Rattle.std.proofs.Common.{◌≡◌, List, inl, inr}
use Rattle.spec_numbers.specs.Rational.{ℚ, ◌≤ℚ◌}
use Rattle.spec_numbers.proofs.Order.{lt_or_le, lt_le_false, le_antisym}
use Rattle.spec_linear.specs.Form.{Linear}
use Rattle.spec_linear.specs.Solution.{Constraint, Equivalent}
use Rattle.spec_linear.proofs.Lists.{alike_solvable}
use Rattle.spec_linear.specs.Extremes.{Exceeds, IsSupremum, IsUnbounded}

at_most : (l : List Constraint) (f : Linear) (q r : ℚ) → IsSupremum l f q → IsSupremum l f r → r ≤ℚ q
at_most l f q r h k = elim (lt_or_le q r) [ inl e ↦ let x = k.least q e in absurd (lt_le_false x.2 (h.bound x.0 x.1)) | inr e ↦ e ]

pub one_supremum : (l : List Constraint) (f : Linear) (q r : ℚ) → IsSupremum l f q → IsSupremum l f r → q ≡ r
one_supremum l f q r h k = le_antisym (at_most l f r q k h) (at_most l f q r h k)

pub never_both : (l : List Constraint) (f : Linear) (q : ℚ) → IsSupremum l f q → IsUnbounded l f → ⊥
never_both l f q h k = let x = k.more q in lt_le_false x.2 (h.bound x.0 x.1)

exceeds_alike : (l m : List Constraint) (f : Linear) (r : ℚ) → Equivalent l m → Exceeds l f r → Exceeds m f r
exceeds_alike l m f r e x = (x.0, (e x.0).0 x.1, x.2)

pub supremum_alike : (l m : List Constraint) (f : Linear) (q : ℚ) → Equivalent l m → IsSupremum l f q
    → IsSupremum m f q
supremum_alike l m f q e h = record {
  solvable = alike_solvable l m e h.solvable;
  bound = λ p s. h.bound p ((e p).1 s);
  least = λ r k. exceeds_alike l m f r e (h.least r k);
}

pub unbounded_alike : (l m : List Constraint) (f : Linear) → Equivalent l m → IsUnbounded l f → IsUnbounded m f
unbounded_alike l m f e h = record { solvable = alike_solvable l m e h.solvable; more = λ r. exceeds_alike l m f r e (h.more r) }
