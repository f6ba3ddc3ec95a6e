use Rattle.std.proofs.Common.{◌≡◌, Err, ap, subst, ◌∙◌}
use Rattle.spec_linear.specs.Solution.{Constraint, equal_zero}
use Rattle.spec_simplex.specs.Asked.{NoQuestion}
use Rattle.cq_store.specs.StoreValue.{MayTake, Only}
use Rattle.cq_store.proofs.Passed.{store_spent}
use Rattle.cq_project.proofs.reduce.disclosed_row.Goals as goal

pub returns-in_err-entailed-clause-pivots : goal.returns-in_err-entailed-clause-pivots
returns-in_err-entailed-clause-pivots c = λ n e.
    let o = c.in_err-entailed.ensures.pivots n (ap Err (store_spent c.from_residual-in_err-entailed.result c.in_err-entailed.field-0.0 n c.from_residual-in_err-entailed.ensures.1 e)) in
    let form : c.in_ok-clone-in-Ge.field-0 ≡ c.args.row.now.form = c.in_ok-clone-in-Ge.ensures.cases ∙ ap (λ (r : Constraint). r.form) c.row.view_is in
    (o.0, subst (λ f. MayTake c.args.store.now.told NoQuestion (Only (equal_zero f)) n) form o.1)
