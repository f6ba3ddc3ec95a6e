-- A row printed by its first coefficient in an order of variables.
use Rattle.std.proofs.Common.{◌≡◌, ◌≢◌, ◌↔◌, inl, ℕ, ◌<◌, List, [], ◌∷◌, map, length, get_or, arith, Bool, true, false, refl, ap, sym, subst, ◌∙◌}
use Rattle.std.specs.Prelude.{MatchBool, IsTrue}
use Rattle.std.specs.Bool.{OnFalse}
use Rattle.spec_numbers.specs.Rational.{ℚ, 0ℚ, ◌*ℚ◌, ◌/ℚ◌, neg_ℚ, inv_ℚ, IsPositive, IsNotNegative}
use Rattle.spec_numbers.specs.Sums.{Monomial, Mentions, factor_of, sum_at}
use Rattle.spec_linear.specs.declared.Relation.{Relation}
use Rattle.spec_linear.specs.declared.Relation.TheVariants.{Eq}
use Rattle.spec_linear.specs.Form.{Linear, IsForm}
use Rattle.spec_linear.specs.Solution.{Constraint, Has, MentionsOnly}
use Rattle.spec_projection.specs.Strict.{IsMultiple}
use Rattle.spec_linear.specs.Echelon.{AreDistinct}
use Rattle.spec_simplex.specs.Overflow.{IsNumberOf, of_variable, of_constant}
use Rattle.spec_answers.specs.Forms.{IsScaled}
use Rattle.cq_frac.specs.declared.Operation.TheVariants.{Quotient}
use Rattle.cq_frac.specs.declared.Pair.{Pair}
use Rattle.cq_frac.specs.declared.VarId.{VarId}
use Rattle.cq_frac.specs.Refused.{Tells}
use Rattle.cq_elimination.specs.Steps.{IsQuotientOf}
use Rattle.cq_elimination.proofs.Quotients.{quotient_told}
use Rattle.cq_elimination.proofs.Bounds.{is_negative}
use Rattle.cq_elimination.specs.Scaling.{ScalesForm}
use Rattle.cq_elimination.specs.declared.arrange.Comparison.{Comparison}
use Rattle.cq_elimination.specs.Lines.{monomial_of, monomials_of, comparison_by, said_by}
use Rattle.cq_elimination.specs.Arranging.{picked, over_lead, DividesProduct, Prints, IsPlaced}
use Rattle.cq_elimination.proofs.Picked.{picked_placed, picked_sum, picked_member, form_picked, over_sum, over_first, some_item}
use Rattle.cq_elimination.proofs.ArrangeLines.{line_multiple}

-- the sign that a test of a number tells
pub lead_sign : (q : ℚ) (b : Bool) → q ≢ 0ℚ → (IsTrue b ↔ IsPositive q) → OnFalse b (IsNotNegative (neg_ℚ q)) → MatchBool b (IsPositive q) (IsPositive (neg_ℚ q))
lead_sign q true n h k = h.0 refl
lead_sign q false n h k = is_negative q n k

-- products whose first is this one
record Starts (p : VarId × ℚ) (products : List (VarId × ℚ)) : Type 0 where
  rest : List Monomial
  leads : monomials_of products ≡ monomial_of p ∷ rest

begins : (p : VarId × ℚ) (products : List (VarId × ℚ)) → 0 < length products → p ≡ get_or products 0 p → Starts p products
begins p [] h e = absurd (omega (arith, h))
begins p (q ∷ products) h e = record { rest = monomials_of products; leads = ap (λ w. monomial_of w ∷ monomials_of products) (sym e) }

module _ (order : List ℕ) (row : Constraint) (r : Relation) (f : Linear) (is : record { relation = r; form = f } ≡ row) (over : MentionsOnly order (row ∷ []))
    (own : IsForm f) (products : List (VarId × ℚ)) (picks : monomials_of products ≡ picked order f.products) where
  same_form : f ≡ row.form
  same_form = ap (λ (c : Constraint). c.form) is

  all_in : (x : ℕ) → Mentions x f.products → Has x order
  all_in x m = over x (inl (subst (λ (g : Linear). Mentions x g.products) same_form m))

  pub any_product : row.form.products ≢ [] → 0 < length products
  any_product n = some_item products (λ e. form_picked order f own (λ z. n (ap (λ (g : Linear). g.products) (sym same_form) ∙ z)) all_in (sym picks ∙ e))

  module _ (some : 0 < length products) (p : VarId × ℚ) (first : p ≡ get_or products 0 p) where
    starts : Starts p products
    starts = begins p products some first

    placed : IsPlaced order (monomial_of p ∷ starts.rest)
    placed = subst (IsPlaced order) (sym picks ∙ starts.leads) (picked_placed order f.products)

    pub lead_nonzero : p.1 ≢ 0ℚ
    lead_nonzero = placed.nonzero.0

    lead_is : p.1 ≡ factor_of p.0.0 f.products
    lead_is = picked_member order f.products (monomial_of p) (subst (Has (monomial_of p)) (sym starts.leads ∙ picks) (inl refl))

    divides : (a : ℚ) (pair : Pair) → IsNumberOf f a → Tells Quotient a p.1 pair → ScalesForm row.form pair
    divides a pair n t = subst (λ g. ScalesForm g pair) same_form (record {
      variable = p.0.0;
      stands = λ z. lead_nonzero (lead_is ∙ z);
      quotient = subst (λ k. IsQuotientOf f k pair) lead_is (quotient_told f a p.1 pair n t);
    })

    pub divides_constant : (pair : Pair) → Tells Quotient f.constant p.1 pair → ScalesForm row.form pair
    divides_constant pair t = divides f.constant pair of_constant t

    pub divides_product : (pair : Pair) → DividesProduct (monomials_of products) p.1 pair → ScalesForm row.form pair
    divides_product pair d =
        let factor : d.product.factor ≡ factor_of d.product.variable f.products = picked_member order f.products d.product (subst (Has d.product) picks d.member) in
        divides d.product.factor pair (subst (IsNumberOf f) (sym factor) (of_variable d.product.variable)) d.told

    module _ (distinct : AreDistinct order) (unequal : row.relation ≢ Eq) (s : List Monomial) (scales : s ≡ map (over_lead p.1) (monomials_of products)) (b : Bool)
        (sign : MatchBool b (IsPositive p.1) (IsPositive (neg_ℚ p.1))) (how : Comparison) (how_is : how ≡ comparison_by r b) (bound : ℚ)
        (bound_is : bound ≡ neg_ℚ (f.constant /ℚ p.1)) where
      sums : (a : ℕ → ℚ) → sum_at a s ≡ inv_ℚ p.1 *ℚ sum_at a row.form.products
      sums a =
          ap (sum_at a) scales ∙ over_sum p.1 a (monomials_of products)
          ∙ ap (λ w. inv_ℚ p.1 *ℚ w) (ap (sum_at a) picks ∙ picked_sum order f.products a distinct all_in ∙ ap (λ (g : Linear). sum_at a g.products) same_form)

      pub prints : Prints order row (record { products = s; comparison = how; bound = bound })
      prints = record {
        multiple = subst (λ h. IsMultiple row (said_by s h bound)) (sym (how_is ∙ ap (λ (c : Constraint). comparison_by c.relation b) is))
            (line_multiple row s bound p.1 lead_nonzero sums (bound_is ∙ ap (λ (g : Linear). neg_ℚ (g.constant /ℚ p.1)) same_form) b unequal sign);
        scaled = subst (IsScaled order) (sym (scales ∙ ap (map (over_lead p.1)) starts.leads)) (over_first order (monomial_of p) starts.rest placed);
      }
