use Rattle.cq_equations.proofs.Gained.{moved_err}
use Rattle.cq_store.specs.declared.store.StoreFault.TheVariants.{Overflow, Pivots}
use Rattle.cq_store.proofs.Questions.{answered, refuses_instead, takes_instead}
use Rattle.spec_simplex.specs.Asked.{NoQuestion}
use Rattle.cq_store.specs.StoreValue.{Only}
use Rattle.cq_store.proofs.Spent.{not_spent}
use Rattle.cq_store.proofs.store.Store.entailed.Goals as goal

pub returns-in-Ok-clause-entailed : goal.returns-in-Ok-clause-entailed
returns-in-Ok-clause-entailed c =
    answered c.args.self.now.told c.args.c.now c.in_ok-denial.denial c.in_ok-denial.ensures c.in-Ok.joins c.in-Ok.ensures.solvable

pub returns-in-Err-clause-overflow : goal.returns-in-Err-clause-overflow
returns-in-Err-clause-overflow c = λ pair e.
    refuses_instead c.args.self.now.told c.args.c.now c.in_ok-denial.denial c.in_ok-denial.ensures pair (c.in-Err.ensures.overflow pair (moved_err c.in-Err.fault (Overflow pair) e))

pub returns-in-Err-clause-pivots : goal.returns-in-Err-clause-pivots
returns-in-Err-clause-pivots c = λ n e.
    let o = c.in-Err.ensures.pivots n (moved_err c.in-Err.fault (Pivots n) e) in
    (o.0, takes_instead c.args.self.now.told c.args.c.now c.in_ok-denial.denial c.in_ok-denial.ensures n o.1)

pub returns-in-Err-clause-enough : goal.returns-in-Err-clause-enough
returns-in-Err-clause-enough c = λ h n e.
    let o = returns-in-Err-clause-pivots c n e in
    not_spent c.args.self.now.told NoQuestion (Only c.args.c.now) c.args.self.now.pivots n h o.0 o.1
