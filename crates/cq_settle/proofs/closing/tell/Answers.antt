use Rattle.std.proofs.Common.{Err, ap}
use Rattle.cq_store.proofs.Passed.{passed, store_spent}
use Rattle.cq_settle.specs.Worlds.{now_of}
use Rattle.cq_settle.proofs.Again.{joins_then}
use Rattle.cq_settle.proofs.Joined.{cannot_join}
use Rattle.cq_settle.proofs.closing.tell.Goals as goal

pub returns-in_err-tell-clause-overflow : goal.returns-in_err-tell-clause-overflow
returns-in_err-tell-clause-overflow c = λ pair e.
    c.in_err-tell.ensures.overflow pair (ap Err (passed c.from_residual.result c.in_err-tell.field-0.0 pair c.from_residual.ensures.1 e))

pub returns-in_err-tell-clause-pivots : goal.returns-in_err-tell-clause-pivots
returns-in_err-tell-clause-pivots c = λ n e.
    c.in_err-tell.ensures.pivots n (ap Err (store_spent c.from_residual.result c.in_err-tell.field-0.0 n c.from_residual.ensures.1 e))

pub returns-in-Unsolvable-clause-joined : goal.returns-in-Unsolvable-clause-joined
returns-in-Unsolvable-clause-joined c =
    let h = rw c.in-Unsolvable.is at c.in_ok-tell.ensures.unsolvable in
    cannot_join c.args.world.now.store.told c.args.constraint c.in-Unsolvable.field-0 h.0

pub returns-clause-joined : goal.returns-clause-joined
returns-clause-joined c =
    let b = c.in_ok-bind_fixed-in-Kept.ensures.bound in
    joins_then (now_of c.args.world.now) (now_of c.bind_fixed.new.world) c.args.constraint c.args.newly.now c.bind_fixed.new.newly c.deref.result.now c.in-Kept.fixed.items b.0
    c.tell.new.self.told c.bind_fixed.ensures.store c.deref.ensures.value
    (rw c.in-Kept.is at c.in_ok-tell.ensures.kept) (rw c.in-Kept.is at c.in_ok-tell.ensures.fixed) c.bind_fixed.ensures.attrs b.1 b.2
