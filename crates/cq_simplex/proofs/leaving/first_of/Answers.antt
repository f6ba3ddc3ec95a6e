use Rattle.std.proofs.Common.{◌≤◌, ◌∙◌, arith, refl, sym, subst, inl, inr}
use Rattle.std.specs.declared.cmp.Ordering.TheVariants.{Less, Equal, Greater}
use Rattle.cq_simplex.specs.Turns.{IsFirstOf}
use Rattle.cq_simplex.proofs.Ratios.{compared}
use Rattle.cq_simplex.proofs.leaving.first_of.Goals as goal

pub returns-in-Less : goal.returns-in-Less
returns-in-Less c =
    subst (λ b. IsFirstOf b c.args.next c.in-Some.limit) (sym c.in-Some.is)
    (inl (inl (compared c.in-Some.limit.ratio c.args.next.ratio Less (sym c.cmp.ensures ∙ c.in-Less.is)), refl))

pub returns-in-Greater : goal.returns-in-Greater
returns-in-Greater c =
    subst (λ b. IsFirstOf b c.args.next c.args.next) (sym c.in-Some.is)
    (inr (inl (compared c.in-Some.limit.ratio c.args.next.ratio Greater (sym c.cmp.ensures ∙ c.in-Greater.is)), refl))

pub returns-then-limit-next : goal.returns-then-limit-next
returns-then-limit-next c =
    let e = compared c.in-Some.limit.ratio c.args.next.ratio Equal (sym c.cmp.ensures ∙ c.in-Equal.is) in
    subst (λ b. IsFirstOf b c.args.next c.in-Some.limit) (sym c.in-Some.is) (inl (inr (e, c.if-limit-next.true), refl))

pub returns-else-limit-next : goal.returns-else-limit-next
returns-else-limit-next c =
    let e = compared c.in-Some.limit.ratio c.args.next.ratio Equal (sym c.cmp.ensures ∙ c.in-Equal.is) in
    let l : c.args.next.row ≤ c.in-Some.limit.row = omega (arith, c.if-limit-next.false) in
    subst (λ b. IsFirstOf b c.args.next c.args.next) (sym c.in-Some.is) (inr (inr (sym e, l), refl))
