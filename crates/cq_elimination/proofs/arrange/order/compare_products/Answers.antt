use Rattle.std.proofs.Common.{◌≡◌, ◌≢◌, ℕ, ◌+◌, ◌<◌, ◌≤◌, length, drop, get_or, true, false, arith, sym, subst, ◌∙◌}
use Rattle.std.proofs.lemmas.List.{get_or_default}
use Rattle.std.specs.Ordering.{MatchOrdering}
use Rattle.spec_numbers.specs.Rational.{0ℚ, ◌<ℚ◌}
use Rattle.spec_numbers.proofs.Order.{cmp_ℚ-matches}
use Rattle.cq_equations.specs.Told.{numbers_of}
use Rattle.cq_elimination.specs.Lines.{monomials_of}
use Rattle.cq_elimination.proofs.Comparing.{Compares, apart, comes_first, comes_behind, both_without, both_with, all_same}
use Rattle.cq_elimination.proofs.arrange.order.compare_products.Goals.{then-not-is_zero, else-not-is_zero}
use Rattle.cq_elimination.proofs.arrange.order.compare_products.Goals as goal

pub returns-in-Less : goal.returns-in-Less
returns-in-Less c =
    let within : c.variables.x-index < length c.args.order.now = omega arith in
    comes_behind c.args.order.now c.args.s.now c.args.t.now c.variables.x-index c.variables.i (get_or c.args.order.now c.variables.x-index (record { 0 = 0 })) within
    (get_or_default c.args.order.now c.variables.x-index _ _ within) c.variables.invariant c.factor_at-factor.result c.factor_at.result c.factor_at-factor.ensures c.factor_at.ensures
    (subst (λ o. MatchOrdering o (c.factor_at-factor.result <ℚ c.factor_at.result) (c.factor_at-factor.result ≡ c.factor_at.result) (c.factor_at.result <ℚ c.factor_at-factor.result))
    (sym c.cmp.ensures ∙ c.in-Less.is) (cmp_ℚ-matches c.factor_at-factor.result c.factor_at.result))

pub returns-in-Greater : goal.returns-in-Greater
returns-in-Greater c =
    let within : c.variables.x-index < length c.args.order.now = omega arith in
    comes_first c.args.order.now c.args.s.now c.args.t.now c.variables.x-index c.variables.i (get_or c.args.order.now c.variables.x-index (record { 0 = 0 })) within
    (get_or_default c.args.order.now c.variables.x-index _ _ within) c.variables.invariant c.factor_at-factor.result c.factor_at.result c.factor_at-factor.ensures c.factor_at.ensures
    (subst (λ o. MatchOrdering o (c.factor_at-factor.result <ℚ c.factor_at.result) (c.factor_at-factor.result ≡ c.factor_at.result) (c.factor_at.result <ℚ c.factor_at-factor.result))
    (sym c.cmp.ensures ∙ c.in-Greater.is) (cmp_ℚ-matches c.factor_at-factor.result c.factor_at.result))

pub variables-preserved : goal.variables-preserved
variables-preserved c =
    let within : c.variables.x-index < length c.args.order.now = omega arith in
    let same : c.factor_at-factor.result ≡ c.factor_at.result =
    subst (λ o. MatchOrdering o (c.factor_at-factor.result <ℚ c.factor_at.result) (c.factor_at-factor.result ≡ c.factor_at.result) (c.factor_at.result <ℚ c.factor_at-factor.result))
    (sym c.cmp.ensures ∙ c.in-Equal.is) (cmp_ℚ-matches c.factor_at-factor.result c.factor_at.result) in
    let rest = λ (i : ℕ). Compares (numbers_of c.args.order.now) (monomials_of c.args.s.now) (monomials_of c.args.t.now) (numbers_of (drop (c.variables.x-index + 1) c.args.order.now))
    (monomials_of (drop i c.args.s.now)) (monomials_of (drop i c.args.t.now)) in
    elim c.if-not-is_zero.branch [
      | then-not-is_zero w ↦
          let stands : c.factor_at-factor.result ≢ 0ℚ = λ z. let t : c.is_zero.result ≡ true = c.is_zero.ensures.1 z in let f : c.is_zero.result ≡ false = w.if-not-is_zero.true in apart c.is_zero.result t f in
          subst rest (sym w.i-is)
          (both_with c.args.order.now c.args.s.now c.args.t.now c.variables.x-index c.variables.i (get_or c.args.order.now c.variables.x-index (record { 0 = 0 })) within
          (get_or_default c.args.order.now c.variables.x-index _ _ within) c.variables.invariant c.factor_at-factor.result c.factor_at.result c.factor_at-factor.ensures c.factor_at.ensures same stands)
      | else-not-is_zero w ↦
          let zero : c.factor_at-factor.result ≡ 0ℚ = c.is_zero.ensures.0 w.if-not-is_zero.false in
          subst rest (sym w.i-is)
          (both_without c.args.order.now c.args.s.now c.args.t.now c.variables.x-index c.variables.i (get_or c.args.order.now c.variables.x-index (record { 0 = 0 })) within
          (get_or_default c.args.order.now c.variables.x-index _ _ within) c.variables.invariant c.factor_at-factor.result c.factor_at.result c.factor_at-factor.ensures c.factor_at.ensures same zero)
    ]

pub returns : goal.returns
returns c =
    let whole : length c.args.order.now ≤ c.variables.x-index = omega arith in
    all_same c.args.order.now c.args.s.now c.args.t.now c.variables.x-index c.variables.i whole c.variables.invariant
