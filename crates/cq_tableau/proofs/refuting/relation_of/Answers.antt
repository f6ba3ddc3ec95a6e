use Rattle.std.proofs.Common.{◌≡◌, suc, ◌-◌, ◌<◌, length, arith, sym, subst, ◌∙◌}
use Rattle.spec_linear.specs.Solution.{Constraint}
use Rattle.cq_tableau.specs.Refuted.{number_in}
use Rattle.cq_tableau.specs.Stored.{IsMemberOf}
use Rattle.cq_tableau.proofs.Looks.{member_here}
use Rattle.cq_tableau.proofs.refuting.relation_of.Goals as goal

pub returns : goal.returns
returns c =
    let k = c.member_number-i.result - 1 in
    let e : number_in c.args.names.now.now c.args.n ≡ suc k = sym c.member_number-i.ensures ∙ omega (arith, c.if-i-eq0.false) in
    let h : k < length c.args.told.now = omega (arith, c.if-i-eq0.false, c.if-i-told.false) in
    subst (λ (z : Constraint). IsMemberOf (λ s. s ≡ z.relation) c.args.told.now c.args.names.now.now c.args.n) (sym c.c.view_is)
    (member_here c.args.told.now c.args.names.now.now c.args.n k c.index-told-i.result e h c.index-told-i.is)
