use Rattle.std.proofs.Common.{◌≡◌, Err, ap, subst}
use Rattle.spec_linear.specs.Solution.{Constraint}
use Rattle.spec_simplex.specs.Asked.{NoQuestion}
use Rattle.cq_store.specs.declared.store.StoreFault.TheVariants.{Pivots}
use Rattle.cq_store.specs.StoreValue.{MayTake, Only}
use Rattle.cq_project.proofs.Parts.{not_refuted}
use Rattle.cq_project.proofs.reduce.telling.tell_one.Goals as goal

pub unreachable-requires : goal.unreachable-requires
unreachable-requires c =
    not_refuted c.args.store.now.told c.in_ok-copy.copy c.args.row.now c.in-Ok.told c.in-Unsolvable.field-0 (c.tell.new.self.told ≡ c.args.store.now.told)
    c.in-Unsolvable.is c.in_ok-copy.ensures.cases c.in-Ok.ensures.unsolvable c.requires.solvable

pub returns-in-Err-clause-pivots : goal.returns-in-Err-clause-pivots
returns-in-Err-clause-pivots c = λ n e.
    let f : c.in-Err.fault ≡ Pivots n = cc in
    let o = c.in-Err.ensures.pivots n (ap Err f) in
    (o.0, subst (λ (k : Constraint). MayTake c.args.store.now.told (Only k) NoQuestion n) c.in_ok-copy.ensures.cases o.1)
