use Rattle.std.proofs.Common.{◌∙◌, Err, ap, subst}
use Rattle.spec_numbers.specs.Rational.{◌*ℚ◌}
use Rattle.cq_frac.specs.declared.Operation.TheVariants.{Product}
use Rattle.cq_frac.specs.Refused.{Refuses, Tells}
use Rattle.cq_frac.proofs.Refusals.{never_both}
use Rattle.cq_frac.specs.Row.{Row}
use Rattle.cq_frac.specs.Rows.{operation_of}
use Rattle.cq_frac.proofs.Exits.{pair_told, refusal_told}
use Rattle.cq_frac.proofs.Pairs.{live_pair, dropped_pair, constant_product, constant_joined, both_accepted, join_accepted}
use Rattle.cq_frac.proofs.row.rows.Row.joined.Goals as goal

pub returns-in_err-merged_into-clause-overflow : goal.returns-in_err-merged_into-clause-overflow
returns-in_err-merged_into-clause-overflow c = λ pair e.
    live_pair c.args.self c.args.how c.args.k c.args.b.now _ _ pair
    (ap (λ (r : Row). r.live) c.self.view_is) (c.deref.ensures.value ∙ ap (λ (r : Row). r.live) c.b.view_is)
    (c.in_err-merged_into.ensures.overflow pair (ap Err (refusal_told _ _ pair c.from_residual.ensures.1 e)))

pub returns-in_err-merged_into-2-clause-overflow : goal.returns-in_err-merged_into-2-clause-overflow
returns-in_err-merged_into-2-clause-overflow c = λ pair e.
    dropped_pair c.args.self c.args.how c.args.k c.args.b.now _ _ pair
    (ap (λ (r : Row). r.dropped) c.self.view_is) (c.deref-2.ensures.value ∙ ap (λ (r : Row). r.dropped) c.b.view_is)
    (c.in_err-merged_into-2.ensures.overflow pair (ap Err (refusal_told _ _ pair c.from_residual-in_err-merged_into-2.ensures.1 e)))

pub returns-in_err-product-clause-overflow : goal.returns-in_err-product-clause-overflow
returns-in_err-product-clause-overflow c = λ pair e.
    constant_product c.args.self c.args.how c.args.k c.args.b.now c.b.inside.constant pair (ap (λ (r : Row). r.constant) c.b.view_is)
    (subst (Tells Product c.args.k c.b.inside.constant) (pair_told _ _ pair c.from_residual-in_err-product.ensures.1 e) c.in_err-product.ensures)

pub returns-in_err-of-clause-overflow : goal.returns-in_err-of-clause-overflow
returns-in_err-of-clause-overflow c = λ pair e.
    constant_joined c.args.self c.args.how c.args.k c.args.b.now c.self.inside.constant c.in_ok-product.field-0 pair (ap (λ (r : Row). r.constant) c.self.view_is)
    (c.in_ok-product.ensures.0 ∙ ap (λ (r : Row). c.args.k *ℚ r.constant) c.b.view_is)
    (subst (Tells (operation_of c.args.how) c.self.inside.constant c.in_ok-product.field-0) (pair_told _ _ pair c.from_residual-in_err-of.ensures.1 e) c.in_err-of.ensures)

pub returns-clause-accepted : goal.returns-clause-accepted
returns-clause-accepted c = λ o p q w r.
    join_accepted c.args.self c.args.how c.args.k c.args.b.now
    (record {
      live = both_accepted c.args.how c.args.k _ _ _ _ (ap (λ (r : Row). r.live) c.self.view_is) (c.deref.ensures.value ∙ ap (λ (r : Row). r.live) c.b.view_is) c.in_ok-merged_into.ensures.accepted;
      dropped = both_accepted c.args.how c.args.k _ _ _ _ (ap (λ (r : Row). r.dropped) c.self.view_is) (c.deref-2.ensures.value ∙ ap (λ (r : Row). r.dropped) c.b.view_is) c.in_ok-merged_into-2.ensures.accepted;
      product = subst (λ n. Refuses Product c.args.k n → ⊥) (ap (λ (r : Row). r.constant) c.b.view_is) (never_both Product _ _ c.in_ok-product.ensures.1);
      sum = subst (λ n. Refuses (operation_of c.args.how) n (c.args.k *ℚ c.args.b.now.constant) → ⊥) (ap (λ (r : Row). r.constant) c.self.view_is)
          (subst (λ n. Refuses (operation_of c.args.how) c.self.inside.constant n → ⊥) (c.in_ok-product.ensures.0 ∙ ap (λ (r : Row). c.args.k *ℚ r.constant) c.b.view_is) (never_both (operation_of c.args.how) _ _ c.in_ok-of.ensures.1));
    }) o p q w r
