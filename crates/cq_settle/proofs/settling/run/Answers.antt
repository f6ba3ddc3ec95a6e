use Rattle.std.proofs.Common.{◌∙◌, List, ℕ, [], Err, ap, subst}
use Rattle.cq_store.proofs.Passed.{passed, store_spent}
use Rattle.cq_term.specs.Places.{numbers_of}
use Rattle.cq_settle.specs.Contents.{Contents}
use Rattle.cq_settle.specs.Worlds.{now_of}
use Rattle.cq_settle.specs.Called.{OfCalls}
use Rattle.cq_settle.specs.Settled.{IsKept, IsPruned, MayRefuse, MayTake}
use Rattle.cq_settle.specs.Steps.{WakesAll}
use Rattle.cq_settle.specs.Underway.{HasStarted, GoesOn, to_do}
use Rattle.cq_settle.proofs.Ran.{of_same, same_called, started, some_started, of_started, ran_kept, but_attrs}
use Rattle.cq_settle.proofs.Ways.{goes_then, of_before, some_after, waiting_live}
use Rattle.cq_settle.proofs.settling.run.Goals as goal
use Rattle.cq_settle.proofs.settling.run.Goals.{After-deref-3, Else-not-branch-2, Else-not-branch-3}

pub begin-requires : goal.begin-requires
begin-requires c = (c.args.atoms.now, same_called c.args.atoms.now (now_of c.args.world.now) c.args.work.newly c.args.work.told.items c.deref.result.now c.args.work.rows.items c.deref-2.result.now c.deref.ensures.value c.deref-2.ensures.value c.requires)

pub returns-then-not-branch-clause-pruned : goal.returns-then-not-branch-clause-pruned
returns-then-not-branch-clause-pruned c =
    of_same c.args.atoms.now (now_of c.args.world.now) c.args.work.newly c.args.work.told.items c.deref.result.now c.args.work.rows.items c.deref-2.result.now IsPruned
    c.deref.ensures.value c.deref-2.ensures.value ((rw c.if-not-branch.true at c.in_ok-begin.ensures.begun) c.args.atoms.now)

pub returns-in_err-begin-clause-overflow : goal.returns-in_err-begin-clause-overflow
returns-in_err-begin-clause-overflow c = λ pair e.
    of_same c.args.atoms.now (now_of c.args.world.now) c.args.work.newly c.args.work.told.items c.deref.result.now c.args.work.rows.items c.deref-2.result.now (λ st p u. MayRefuse st p pair)
    c.deref.ensures.value c.deref-2.ensures.value (c.in_err-begin.ensures.overflow pair (ap Err (passed c.from_residual.result c.in_err-begin.field-0.0 pair c.from_residual.ensures.1 e)) c.args.atoms.now)

pub returns-in_err-begin-clause-pivots : goal.returns-in_err-begin-clause-pivots
returns-in_err-begin-clause-pivots c = λ n e.
    let o = c.in_err-begin.ensures.pivots n (ap Err (store_spent c.from_residual.result c.in_err-begin.field-0.0 n c.from_residual.ensures.1 e)) in (
      o.0,
      of_same c.args.atoms.now (now_of c.args.world.now) c.args.work.newly c.args.work.told.items c.deref.result.now c.args.work.rows.items c.deref-2.result.now (λ st p u. MayTake st p n)
          c.deref.ensures.value c.deref-2.ensures.value (o.1 c.args.atoms.now),
    )

-- the equations and rows have joined
begun : (c : After-deref-3) → OfCalls c.args.atoms.now (now_of c.args.world.now) c.args.work.newly c.args.work.told.items c.args.work.rows.items
    (HasStarted c.args.atoms.now c.args.world.now.heap.now.terms (now_of c.begin.new.world) c.deref-3.result.now (numbers_of c.begin.new.newly))
begun c = started c.args.atoms.now (now_of c.args.world.now) (now_of c.begin.new.world) c.args.work.newly c.args.work.told.items c.deref.result.now c.deref-3.result.now
    c.args.work.rows.items c.deref-2.result.now (numbers_of c.begin.new.newly) c.deref.ensures.value c.deref-2.ensures.value c.deref-3.ensures.value
    ((rw c.if-not-branch.false at c.in_ok-begin.ensures.begun) c.args.atoms.now)

-- and the told terms
told : (c : Else-not-branch-2) → GoesOn c.args.atoms.now (now_of c.begin.new.world) (now_of c.join_told.new.world) (to_do c.deref-3.result.now [] (numbers_of c.begin.new.newly) (numbers_of c.begin.new.newly))
    (to_do [] [] (numbers_of c.join_told.new.newly) (numbers_of c.join_told.new.newly))
told c = rw c.if-not-branch-2.false at c.in_ok-join_told.ensures.joined

-- and those that wait, as far as they can
closed : (c : Else-not-branch-3) → GoesOn c.args.atoms.now (now_of c.begin.new.world) (now_of c.close.new.world) (to_do c.deref-3.result.now [] (numbers_of c.begin.new.newly) (numbers_of c.begin.new.newly))
    (to_do [] [] [] (numbers_of c.close.new.newly))
closed c = goes_then c.args.atoms.now (now_of c.begin.new.world) (now_of c.join_told.new.world) (now_of c.close.new.world) _ _ _
    (rw c.if-not-branch-2.false at c.in_ok-join_told.ensures.joined) (rw c.if-not-branch-3.false at c.in_ok-close.ensures.closed)

pub join_told-requires : goal.join_told-requires
join_told-requires c =
    some_started c.args.atoms.now (now_of c.args.world.now) (now_of c.begin.new.world) c.args.work.newly c.args.work.told.items c.deref-3.result.now c.args.work.rows.items
    (numbers_of c.begin.new.newly) (begun (goal.at.join_told-requires c).After-deref-3) c.requires

pub returns-then-not-branch-2-clause-pruned : goal.returns-then-not-branch-2-clause-pruned
returns-then-not-branch-2-clause-pruned c =
    of_started c.args.atoms.now (now_of c.args.world.now) (now_of c.begin.new.world) c.args.work.newly c.args.work.told.items c.deref-3.result.now c.args.work.rows.items
    (numbers_of c.begin.new.newly) (begun (goal.at.returns-then-not-branch-2-clause-pruned c).After-deref-3) IsPruned (rw c.if-not-branch-2.true at c.in_ok-join_told.ensures.joined)

pub returns-in_err-join_told-clause-overflow : goal.returns-in_err-join_told-clause-overflow
returns-in_err-join_told-clause-overflow c = λ pair e.
    of_started c.args.atoms.now (now_of c.args.world.now) (now_of c.begin.new.world) c.args.work.newly c.args.work.told.items c.deref-3.result.now c.args.work.rows.items
    (numbers_of c.begin.new.newly) (begun (goal.at.returns-in_err-join_told-clause-overflow c).After-deref-3)
    (λ st p u. MayRefuse st p pair) (c.in_err-join_told.ensures.overflow pair (ap Err (passed c.from_residual-in_err-join_told.result c.in_err-join_told.field-0.0 pair c.from_residual-in_err-join_told.ensures.1 e)))

pub returns-in_err-join_told-clause-pivots : goal.returns-in_err-join_told-clause-pivots
returns-in_err-join_told-clause-pivots c = λ n e.
    let o = c.in_err-join_told.ensures.pivots n (ap Err (store_spent c.from_residual-in_err-join_told.result c.in_err-join_told.field-0.0 n c.from_residual-in_err-join_told.ensures.1 e)) in (
      o.0 ∙ c.begin.ensures.marks.pivots,
      of_started c.args.atoms.now (now_of c.args.world.now) (now_of c.begin.new.world) c.args.work.newly c.args.work.told.items c.deref-3.result.now c.args.work.rows.items
          (numbers_of c.begin.new.newly) (begun (goal.at.returns-in_err-join_told-clause-pivots c).After-deref-3) (λ st p u. MayTake st p n) o.1,
    )

pub close-requires : goal.close-requires
close-requires c =
    some_after c.args.atoms.now (now_of c.begin.new.world) (now_of c.join_told.new.world) _ _ (told (goal.at.close-requires c).Else-not-branch-2)
    (some_started c.args.atoms.now (now_of c.args.world.now) (now_of c.begin.new.world) c.args.work.newly c.args.work.told.items c.deref-3.result.now c.args.work.rows.items
    (numbers_of c.begin.new.newly) (begun (goal.at.close-requires c).After-deref-3) c.requires)

pub returns-then-not-branch-3-clause-pruned : goal.returns-then-not-branch-3-clause-pruned
returns-then-not-branch-3-clause-pruned c =
    of_started c.args.atoms.now (now_of c.args.world.now) (now_of c.begin.new.world) c.args.work.newly c.args.work.told.items c.deref-3.result.now c.args.work.rows.items
    (numbers_of c.begin.new.newly) (begun (goal.at.returns-then-not-branch-3-clause-pruned c).After-deref-3) IsPruned
    (of_before c.args.atoms.now (now_of c.begin.new.world) (now_of c.join_told.new.world) _ _ IsPruned (told (goal.at.returns-then-not-branch-3-clause-pruned c).Else-not-branch-2) (rw c.if-not-branch-3.true at c.in_ok-close.ensures.closed))

pub returns-in_err-close-clause-overflow : goal.returns-in_err-close-clause-overflow
returns-in_err-close-clause-overflow c = λ pair e.
    of_started c.args.atoms.now (now_of c.args.world.now) (now_of c.begin.new.world) c.args.work.newly c.args.work.told.items c.deref-3.result.now c.args.work.rows.items
    (numbers_of c.begin.new.newly) (begun (goal.at.returns-in_err-close-clause-overflow c).After-deref-3) (λ st p u. MayRefuse st p pair)
    (of_before c.args.atoms.now (now_of c.begin.new.world) (now_of c.join_told.new.world) _ _ (λ st p u. MayRefuse st p pair) (told (goal.at.returns-in_err-close-clause-overflow c).Else-not-branch-2)
    (c.in_err-close.ensures.overflow pair (ap Err (passed c.from_residual-in_err-close.result c.in_err-close.field-0.0 pair c.from_residual-in_err-close.ensures.1 e))))

pub returns-in_err-close-clause-pivots : goal.returns-in_err-close-clause-pivots
returns-in_err-close-clause-pivots c = λ n e.
    let o = c.in_err-close.ensures.pivots n (ap Err (store_spent c.from_residual-in_err-close.result c.in_err-close.field-0.0 n c.from_residual-in_err-close.ensures.1 e)) in (
      o.0 ∙ c.join_told.ensures.marks.pivots ∙ c.begin.ensures.marks.pivots,
      of_started c.args.atoms.now (now_of c.args.world.now) (now_of c.begin.new.world) c.args.work.newly c.args.work.told.items c.deref-3.result.now c.args.work.rows.items
          (numbers_of c.begin.new.newly) (begun (goal.at.returns-in_err-close-clause-pivots c).After-deref-3) (λ st p u. MayTake st p n)
          (of_before c.args.atoms.now (now_of c.begin.new.world) (now_of c.join_told.new.world) _ _ (λ st p u. MayTake st p n) (told (goal.at.returns-in_err-close-clause-pivots c).Else-not-branch-2) o.1),
    )

pub wake-requires : goal.wake-requires
wake-requires c =
    waiting_live c.args.atoms.now (now_of c.close.new.world) _
    (some_after c.args.atoms.now (now_of c.begin.new.world) (now_of c.close.new.world) _ _ (closed (goal.at.wake-requires c).Else-not-branch-3)
    (some_started c.args.atoms.now (now_of c.args.world.now) (now_of c.begin.new.world) c.args.work.newly c.args.work.told.items c.deref-3.result.now c.args.work.rows.items
    (numbers_of c.begin.new.newly) (begun (goal.at.wake-requires c).After-deref-3) c.requires))

pub returns-clause-woken : goal.returns-clause-woken
returns-clause-woken c =
    let w = now_of c.args.world.now in
    let z = now_of c.close.new.world in
    let v = now_of c.wake.new.world in
    let fixes = c.store_and_numbers.ensures.fixes in
    let goals = c.in_ok-wake.field-0.items in
    let last = numbers_of c.close.new.newly in
    subst (λ (d : Contents). OfCalls c.args.atoms.now w c.args.work.newly c.args.work.told.items c.args.work.rows.items (λ st p u. IsKept c.args.atoms.now w d goals st p u))
    (but_attrs z v c.wake.ensures.heap c.wake.ensures.store c.wake.ensures.marks.pivots)
    (ran_kept c.args.atoms.now (now_of c.args.world.now) (now_of c.begin.new.world) c.args.work.newly c.args.work.told.items c.deref-3.result.now c.args.work.rows.items
    (numbers_of c.begin.new.newly) (begun (goal.at.returns-clause-woken c).After-deref-3) z last
    (closed (goal.at.returns-clause-woken c).Else-not-branch-3)
    c.store_and_numbers.ensures.solvable fixes.0 fixes.1 v.attrs goals (subst (λ (vs : List ℕ). WakesAll z vs v.attrs goals) (ap numbers_of c.as_slice.ensures) c.in_ok-wake.ensures.woken))
