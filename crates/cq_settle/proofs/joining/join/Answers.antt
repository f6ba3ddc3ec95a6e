use Rattle.std.proofs.Common.{ap, ◌∙◌, ◌++◌, Err}
use Rattle.cq_store.proofs.Passed.{store_spent}
use Rattle.cq_settle.proofs.Joined.{cannot_join, one_joins}
use Rattle.cq_settle.proofs.joining.join.Goals as goal

pub returns-in_err-tell-clause-pivots : goal.returns-in_err-tell-clause-pivots
returns-in_err-tell-clause-pivots c = λ n e. c.in_err-tell.ensures.pivots n (ap Err (store_spent c.from_residual.result c.in_err-tell.field-0.0 n c.from_residual.ensures.1 e))

pub returns-in-Unsolvable-clause-joined : goal.returns-in-Unsolvable-clause-joined
returns-in-Unsolvable-clause-joined c = cannot_join c.args.store.now.told c.args.constraint c.in-Unsolvable.field-0 (rw c.in-Unsolvable.is at c.in_ok-tell.ensures.unsolvable).0

pub returns-clause-joined : goal.returns-clause-joined
returns-clause-joined c =
    one_joins c.args.store.now.told c.tell.new.self.told c.args.constraint c.args.fixed.now.items c.extend_from_slice.new.self.items c.in-Kept.more.items
    (rw c.in-Kept.is at c.in_ok-tell.ensures.kept) (rw c.in-Kept.is at c.in_ok-tell.ensures.fixed)
    (c.in_ok-extend_from_slice-in-Kept.ensures.items ∙ ap (λ vs. c.args.fixed.now.items ++ vs) c.deref.ensures.value)
