use Rattle.std.proofs.Common.{◌≡◌, sym, subst}
use Rattle.std.specs.Ordering.{MatchOrdering}
use Rattle.spec_answers.specs.Forms.{Before}
use Rattle.cq_frac.specs.declared.VarId.{VarId}
use Rattle.spec_numbers.specs.Rational.{ℚ}
use Rattle.std.proofs.Common.{List}
use Rattle.cq_equations.specs.Told.{numbers_of}
use Rattle.cq_elimination.specs.Lines.{monomials_of, line_of}
use Rattle.cq_elimination.proofs.ArrangeLines.{Compared, compared_lines}
use Rattle.cq_elimination.proofs.arrange.order.compare.Goals as goal

pub returns : goal.returns
returns c =
    let order = numbers_of c.args.order.now in
    let products = subst (λ (s : List (VarId × ℚ)). MatchOrdering c.compare_products.result (Before order (monomials_of s) (monomials_of c.args.b.now.products.items) ⊥)
    (monomials_of s ≡ monomials_of c.args.b.now.products.items) (Before order (monomials_of c.args.b.now.products.items) (monomials_of s) ⊥)) c.deref.ensures.value
    (subst (λ (t : List (VarId × ℚ)). MatchOrdering c.compare_products.result (Before order (monomials_of c.deref.result.now) (monomials_of t) ⊥)
    (monomials_of c.deref.result.now ≡ monomials_of t) (Before order (monomials_of t) (monomials_of c.deref.result.now) ⊥)) c.deref-2.ensures.value c.compare_products.ensures) in
    subst (Compared order (line_of c.args.a.now) (line_of c.args.b.now)) (sym c.then.ensures)
    (compared_lines order (line_of c.args.a.now) (line_of c.args.b.now) c.compare_products.result c.compare_bounds.result products c.compare_bounds.ensures)
