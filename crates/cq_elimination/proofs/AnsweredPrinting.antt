-- Each row that is no equation and has a variable is printed by a line.
use Rattle.std.proofs.Common.{◌≡◌, ◌≢◌, ℕ, List, [], ◌∷◌, Bool, true, false, map, refl, ap, sym, subst, ◌∙◌}
use Rattle.std.specs.Prelude.{MatchBool}
use Rattle.spec_numbers.specs.Rational.{ℚ, ◌*ℚ◌, ◌/ℚ◌, neg_ℚ, inv_ℚ, IsPositive}
use Rattle.spec_numbers.specs.Sums.{Monomial, Mentions, sum_at}
use Rattle.spec_numbers.proofs.Sign.{Sign, is_zero, is_pos, is_neg, sign}
use Rattle.spec_linear.specs.declared.Relation.TheVariants.{Eq}
use Rattle.spec_linear.specs.Form.{IsForm}
use Rattle.spec_linear.specs.Solution.{Constraint, Has}
use Rattle.spec_linear.specs.Echelon.{AreDistinct}
use Rattle.cq_elimination.specs.Lines.{Line, comparison_by}
use Rattle.cq_elimination.specs.Arranging.{picked, over_lead, IsPlaced, Prints}
use Rattle.cq_elimination.proofs.Picked.{picked_placed, picked_sum, form_picked, over_sum, over_first}
use Rattle.cq_elimination.proofs.ArrangeLines.{line_multiple}

module _ (order : List ℕ) (distinct : AreDistinct order) (c : Constraint) (unequal : c.relation ≢ Eq) (form : IsForm c.form) (some : c.form.products ≢ [])
    (over : (x : ℕ) → Mentions x c.form.products → Has x order) where
  abbrev HasLine : Type 0
  HasLine = (l : Line) × Prints order c l

  -- by the first factor
  by_first : (m : Monomial) (s : List Monomial) → picked order c.form.products ≡ m ∷ s → HasLine
  by_first m s e = by_sign (sign m.factor)
    where
      placed : IsPlaced order (m ∷ s)
      placed = subst (IsPlaced order) e (picked_placed order c.form.products)

      sums : (a : ℕ → ℚ) → sum_at a (map (over_lead m.factor) (m ∷ s)) ≡ inv_ℚ m.factor *ℚ sum_at a c.form.products
      sums a =
          over_sum m.factor a (m ∷ s)
          ∙ ap (λ w. inv_ℚ m.factor *ℚ w) (ap (sum_at a) (sym e) ∙ picked_sum order c.form.products a distinct over)

      printed : (b : Bool) → MatchBool b (IsPositive m.factor) (IsPositive (neg_ℚ m.factor)) → HasLine
      printed b h = (
        record { products = map (over_lead m.factor) (m ∷ s); comparison = comparison_by c.relation b; bound = neg_ℚ (c.form.constant /ℚ m.factor) },
        record {
          multiple = line_multiple c (map (over_lead m.factor) (m ∷ s)) (neg_ℚ (c.form.constant /ℚ m.factor)) m.factor placed.nonzero.0 sums refl b unequal h;
          scaled = over_first order m s placed;
        },
      )

      by_sign : Sign m.factor → HasLine
      by_sign (is_zero z) = absurd (placed.nonzero.0 z)
      by_sign (is_pos h) = printed true h
      by_sign (is_neg h) = printed false h

  pub row_printed : HasLine
  row_printed = go (picked order c.form.products) refl
    where
      go : (t : List Monomial) → picked order c.form.products ≡ t → HasLine
      go [] e = absurd (form_picked order c.form form some over e)
      go (m ∷ s) e = by_first m s e
