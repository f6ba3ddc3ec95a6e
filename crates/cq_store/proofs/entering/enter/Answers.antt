use Rattle.std.proofs.Common.{List, Err, ap, subst, ◌∙◌}
use Rattle.spec_linear.specs.Solution.{Constraint}
use Rattle.spec_simplex.specs.Asked.{NoQuestion}
use Rattle.cq_store.specs.StoreValue.{MayTake, Only}
use Rattle.cq_store.proofs.Passed.{store_spent}
use Rattle.cq_store.proofs.entering.enter.Goals as goal

pub returns-in_err-entered-clause-pivots : goal.returns-in_err-entered-clause-pivots
returns-in_err-entered-clause-pivots c = λ n e.
    let f = store_spent c.from_residual-in_err-entered.result c.in_err-entered.field-0.0 n c.from_residual-in_err-entered.ensures.1 e in
    let o = c.in_err-entered.ensures.pivots n (ap Err f) in (
      o.0,
      subst (λ (l : List Constraint). MayTake l (Only c.args.c) NoQuestion n) (c.as_slice-told.ensures ∙ c.in_ok-reserve_places.ensures.now) o.1,
    )
