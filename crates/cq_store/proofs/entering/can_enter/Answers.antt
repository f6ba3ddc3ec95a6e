use Rattle.std.proofs.Common.{List, subst}
use Rattle.std.specs.Prelude.{IfOk}
use Rattle.spec_linear.specs.Solution.{Constraint}
use Rattle.spec_simplex.specs.Asked.{NoQuestion}
use Rattle.cq_store.specs.Entered.{CanJoin}
use Rattle.cq_store.specs.StoreValue.{MayTake, Only}
use Rattle.cq_store.proofs.entering.can_enter.Goals as goal

pub returns-clause-solvable : goal.returns-clause-solvable
returns-clause-solvable c =
    subst (λ (l : List Constraint). IfOk c.can_enter_behind.result (CanJoin l c.args.c)) c.as_slice-told.ensures c.can_enter_behind.ensures.solvable

pub returns-clause-pivots : goal.returns-clause-pivots
returns-clause-pivots c = λ n e.
    let o = c.can_enter_behind.ensures.pivots n e in
    (o.0, subst (λ (l : List Constraint). MayTake l (Only c.args.c) NoQuestion n) c.as_slice-told.ensures o.1)
