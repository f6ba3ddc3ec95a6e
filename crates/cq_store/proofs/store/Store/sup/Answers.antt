use Rattle.spec_linear.specs.Weak.{at_least_zero}
use Rattle.std.proofs.Common.{refl}
use Rattle.spec_simplex.specs.Asked.{of_question, NoQuestion}
use Rattle.cq_store.specs.StoreValue.{Only}
use Rattle.cq_store.proofs.Spent.{not_spent}
use Rattle.cq_store.proofs.store.Store.sup.Goals as goal

pub returns-clause-overflow : goal.returns-clause-overflow
returns-clause-overflow c = λ pair e. c.reached.ensures.overflow pair e (at_least_zero c.args.form.now) (of_question (at_least_zero c.args.form.now) refl)

pub returns-clause-pivots : goal.returns-clause-pivots
returns-clause-pivots c = λ n e.
    let o = c.reached.ensures.pivots n e in (o.0, o.1 (at_least_zero c.args.form.now) (of_question (at_least_zero c.args.form.now) refl))

pub returns-clause-enough : goal.returns-clause-enough
returns-clause-enough c = λ h n e.
    let o = returns-clause-pivots c n e in
    not_spent c.args.self.now.told NoQuestion (Only (at_least_zero c.args.form.now)) c.args.self.now.pivots n h o.0 o.1
