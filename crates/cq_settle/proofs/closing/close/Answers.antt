use Rattle.std.proofs.Common.{◌<◌, ◌≤◌, [], List, ℕ, Err, length, drop, ap, refl, sym, subst, ◌∙◌, arith}
use Rattle.std.proofs.lemmas.List.{drop_all, length-append}
use Rattle.cq_store.proofs.Passed.{passed, store_spent}
use Rattle.cq_frac.specs.declared.VarId.{VarId}
use Rattle.cq_term.specs.Places.{numbers_of}
use Rattle.cq_settle.specs.Worlds.{now_of}
use Rattle.cq_settle.specs.Settled.{IsPruned, MayRefuse, MayTake}
use Rattle.cq_settle.specs.Underway.{GoesOn, to_do}
use Rattle.cq_settle.proofs.Again.{sooner}
use Rattle.cq_settle.proofs.Marks.{marks_then}
use Rattle.cq_settle.proofs.Ways.{AreWoken, goes_nowhere, goes_then, of_before, some_after, to_look_at, woken_since, woken_waits}
use Rattle.cq_settle.proofs.closing.close.Goals as goal
use Rattle.cq_settle.proofs.closing.close.Goals.{After-deref}

pub loop-seen-init : goal.loop-seen-init
loop-seen-init c = record {
  goes = goes_nowhere c.args.atoms.now (now_of c.args.world.now) (to_do [] [] (numbers_of c.args.newly.now) (numbers_of c.args.newly.now));
  seen = omega arith;
  marks = record { heap = refl; attrs = refl; store = refl; pivots = refl; room = omega arith };
}

-- what a pass looks at
these : (c : After-deref) → AreWoken c.loop-seen.world.attrs.now (numbers_of (drop c.loop-seen.seen c.loop-seen.newly)) c.deref.result.now
these c = woken_since c.loop-seen.world.attrs.now c.loop-seen.newly c.as_slice-in-loop-seen.result.now c.loop-seen.seen c.in_ok-numbers.numbers.items c.deref.result.now
    c.as_slice-in-loop-seen.ensures c.deref.ensures.value
    (record { sound = c.in_ok-numbers.ensures.woken; all = c.in_ok-numbers.ensures.all; ascends = c.in_ok-numbers.ensures.ascending })

-- up to a pass
up_to : (c : After-deref) → GoesOn c.args.atoms.now (now_of c.args.world.now) (now_of c.loop-seen.world) (to_do [] [] (numbers_of c.args.newly.now) (numbers_of c.args.newly.now))
    (to_do [] c.deref.result.now [] (numbers_of c.loop-seen.newly))
up_to c = goes_then c.args.atoms.now (now_of c.args.world.now) (now_of c.loop-seen.world) (now_of c.loop-seen.world) _ _ _ c.loop-seen.invariant.goes
    (to_look_at c.args.atoms.now (now_of c.loop-seen.world) (numbers_of (drop c.loop-seen.seen c.loop-seen.newly)) c.deref.result.now (numbers_of c.loop-seen.newly) (these c).all)

pub look_again-requires-clause-underway : goal.look_again-requires-clause-underway
look_again-requires-clause-underway c =
    some_after c.args.atoms.now (now_of c.args.world.now) (now_of c.loop-seen.world) _ _ (up_to (goal.at.look_again-requires-clause-underway c).After-deref) c.requires

pub look_again-requires-clause-ascending : goal.look_again-requires-clause-ascending
look_again-requires-clause-ascending c = (these (goal.at.look_again-requires-clause-ascending c).After-deref).ascends

pub look_again-requires-clause-waits : goal.look_again-requires-clause-waits
look_again-requires-clause-waits c =
    woken_waits c.loop-seen.world.attrs.now _ c.deref.result.now (these (goal.at.look_again-requires-clause-waits c).After-deref)

pub loop-seen-preserved : goal.loop-seen-preserved
loop-seen-preserved c =
    let looked = rw c.if-not-branch.false at c.in_ok-look_again.ensures.looked in
    let fewer = rw c.if-not-branch.false at c.in_ok-look_again.ensures.fewer in
    let begin = to_do [] [] (numbers_of c.args.newly.now) (numbers_of c.args.newly.now) in
    let seen = ap length c.as_slice-seen.ensures in
    record {
      goes = subst (λ (n : ℕ). GoesOn c.args.atoms.now (now_of c.args.world.now) (now_of c.look_again.new.world) begin
          (to_do [] [] (numbers_of (drop n c.look_again.new.newly)) (numbers_of c.look_again.new.newly))) (sym seen)
          (goes_then c.args.atoms.now (now_of c.args.world.now) (now_of c.loop-seen.world) (now_of c.look_again.new.world) _ _ _ (up_to (goal.at.loop-seen-preserved c).After-deref) looked);
      seen = omega (arith, seen, ap length fewer.list, length-append c.loop-seen.newly fewer.more);
      marks = marks_then _ _ _ c.loop-seen.invariant.marks c.look_again.ensures.marks;
    }

pub loop-seen-smaller : goal.loop-seen-smaller
loop-seen-smaller c =
    let more : c.loop-seen.seen < length c.loop-seen.newly = omega (arith, c.loop-seen-test.true, ap length c.as_slice.ensures) in
    let fewer = rw c.if-not-branch.false at c.in_ok-look_again.ensures.fewer in
    sooner (now_of c.loop-seen.world) (now_of c.look_again.new.world) c.loop-seen.seen (length c.as_slice-seen.result.now) c.loop-seen.newly c.look_again.new.newly more
    (ap length c.as_slice-seen.ensures) fewer

pub returns-in_err-look_again-clause-overflow : goal.returns-in_err-look_again-clause-overflow
returns-in_err-look_again-clause-overflow c = λ pair e.
    of_before c.args.atoms.now (now_of c.args.world.now) (now_of c.loop-seen.world) _ _ (λ st p u. MayRefuse st p pair)
    (up_to (goal.at.returns-in_err-look_again-clause-overflow c).After-deref)
    (c.in_err-look_again.ensures.overflow pair (ap Err (passed c.from_residual-in_err-look_again.result c.in_err-look_again.field-0.0 pair c.from_residual-in_err-look_again.ensures.1 e)))

pub returns-in_err-look_again-clause-pivots : goal.returns-in_err-look_again-clause-pivots
returns-in_err-look_again-clause-pivots c = λ n e.
    let o = c.in_err-look_again.ensures.pivots n (ap Err (store_spent c.from_residual-in_err-look_again.result c.in_err-look_again.field-0.0 n c.from_residual-in_err-look_again.ensures.1 e)) in (
      o.0 ∙ c.loop-seen.invariant.marks.pivots,
      of_before c.args.atoms.now (now_of c.args.world.now) (now_of c.loop-seen.world) _ _ (λ st p u. MayTake st p n) (up_to (goal.at.returns-in_err-look_again-clause-pivots c).After-deref) o.1,
    )

pub returns-then-not-branch-clause-closed : goal.returns-then-not-branch-clause-closed
returns-then-not-branch-clause-closed c =
    of_before c.args.atoms.now (now_of c.args.world.now) (now_of c.loop-seen.world) _ _ IsPruned (up_to (goal.at.returns-then-not-branch-clause-closed c).After-deref)
    (rw c.if-not-branch.true at c.in_ok-look_again.ensures.looked)

pub returns-clause-closed : goal.returns-clause-closed
returns-clause-closed c =
    let begin = to_do [] [] (numbers_of c.args.newly.now) (numbers_of c.args.newly.now) in
    let all : length c.loop-seen.newly ≤ c.loop-seen.seen = omega (arith, c.loop-seen-test.false, ap length c.as_slice.ensures) in
    subst (λ (vs : List VarId). GoesOn c.args.atoms.now (now_of c.args.world.now) (now_of c.loop-seen.world) begin (to_do [] [] (numbers_of vs) (numbers_of c.loop-seen.newly)))
    (drop_all c.loop-seen.seen c.loop-seen.newly all) c.loop-seen.invariant.goes
