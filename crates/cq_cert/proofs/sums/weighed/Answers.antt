use Rattle.std.proofs.Common.{◌≡◌, ◌-◌, get_or, sym, subst}
use Rattle.spec_linear.specs.Solution.{Constraint}
use Rattle.cq_cert.proofs.Weights.{weighed_next, weighed_wide}
use Rattle.cq_cert.proofs.sums.weighed.Goals as goal

pub returns-in-None : goal.returns-in-None
returns-in-None c =
    let l = c.args.members.now in
    let e = c.in-Some.field-0-0.now in
    let found : Constraint = record { relation = c.found.inside.relation; form = c.found.inside.form } in
    weighed_wide l c.args.run.now c.loop-number.rest.now c.in-Some.tail.now e c.loop-number.sum c.loop-number.invariant c.in-Some.ensures.cases.0 found
    (subst (λ (x : Constraint). x ≡ get_or l (e.0 - 1) x) (sym c.found.view_is) c.index-members-number.is) (rw c.in-None.is at c.in_ok-more.ensures)

pub loop-number-preserved : goal.loop-number-preserved
loop-number-preserved c =
    let l = c.args.members.now in
    let e = c.in-Some.field-0-0.now in
    let found : Constraint = record { relation = c.found.inside.relation; form = c.found.inside.form } in
    let added = rw c.in-Some-2.is at c.in_ok-more.ensures in
    weighed_next l c.args.run.now c.loop-number.rest.now c.in-Some.tail.now e c.loop-number.sum c.loop-number.invariant c.in-Some.ensures.cases.0 c.in-Some-2.more found
    (subst (λ (x : Constraint). x ≡ get_or l (e.0 - 1) x) (sym c.found.view_is) c.index-members-number.is) added.0 added.1
