use Rattle.std.proofs.Common.{◌+◌, ◌<◌, ◌≤◌, [], ◌∷◌, List, ℕ, Err, length, drop, ap, refl, sym, subst, ◌∙◌, arith}
use Rattle.std.proofs.lemmas.List.{drop_all}
use Rattle.cq_store.proofs.Passed.{passed, store_spent}
use Rattle.cq_term.specs.Places.{numbers_of}
use Rattle.cq_settle.specs.Worlds.{now_of}
use Rattle.cq_settle.specs.Settled.{IsPruned, MayRefuse, MayTake}
use Rattle.cq_settle.specs.Underway.{GoesOn, to_do}
use Rattle.cq_settle.proofs.Again.{at_number, none_behind, behind_then, fewer_none, fewer_then, waits_there, wait_on}
use Rattle.cq_settle.proofs.Marks.{marks_then}
use Rattle.cq_settle.proofs.Ways.{goes_nowhere, goes_then, of_before, some_after}
use Rattle.cq_settle.proofs.closing.look_again.Goals as goal
use Rattle.cq_settle.proofs.closing.look_again.Goals.{After-rejoin}

pub loop-number-init : goal.loop-number-init
loop-number-init c =
    let w = now_of c.args.world.now in
    let all = numbers_of c.args.newly.now in
    record {
      goes = subst (λ (b : List ℕ). GoesOn c.args.atoms.now w w (to_do [] c.args.woken.now [] all) (to_do [] c.args.woken.now b all)) (sym (none_behind [] c.args.newly.now))
          (goes_nowhere c.args.atoms.now w (to_do [] c.args.woken.now [] all));
      waits = c.requires.waits;
      fewer = fewer_none w c.args.newly.now;
      marks = record { heap = refl; attrs = refl; store = refl; pivots = refl; room = omega arith };
    }

-- up to a number
up_to : (c : After-rejoin) → GoesOn c.args.atoms.now (now_of c.args.world.now) (now_of c.loop-number.world) (to_do [] c.args.woken.now [] (numbers_of c.args.newly.now))
    (to_do [] (c.number-item.result ∷ drop (c.loop-number.number-index + 1) c.args.woken.now) (numbers_of (drop (length c.args.newly.now) c.loop-number.newly)) (numbers_of c.loop-number.newly))
up_to c = at_number c.args.atoms.now (now_of c.args.world.now) (now_of c.loop-number.world) _ c.args.woken.now c.loop-number.number-index c.number-item.result _ _
    (omega (arith, c.loop-number-test.true)) c.number-item.is c.loop-number.invariant.goes

pub rejoin-requires-clause-underway : goal.rejoin-requires-clause-underway
rejoin-requires-clause-underway c = (
  drop (c.loop-number.number-index + 1) c.args.woken.now,
  numbers_of (drop (length c.args.newly.now) c.loop-number.newly),
  some_after c.args.atoms.now (now_of c.args.world.now) (now_of c.loop-number.world) _ _
      (at_number c.args.atoms.now (now_of c.args.world.now) (now_of c.loop-number.world) _ c.args.woken.now c.loop-number.number-index c.number-item.result _ _
      (omega (arith, c.loop-number-test.true)) c.number-item.is c.loop-number.invariant.goes) c.requires.underway,
)

pub rejoin-requires-clause-waits : goal.rejoin-requires-clause-waits
rejoin-requires-clause-waits c =
    let i = c.loop-number.number-index in
    let ns = c.args.woken.now in
    let at : i < length ns = omega (arith, c.loop-number-test.true) in
    waits_there c.loop-number.world.attrs.now ns i c.number-item.result at c.number-item.is c.loop-number.invariant.waits

pub loop-number-preserved : goal.loop-number-preserved
loop-number-preserved c =
    let i = c.loop-number.number-index in
    let ns = c.args.woken.now in
    let at : i < length ns = omega (arith, c.loop-number-test.true) in
    let w = now_of c.args.world.now in
    let x = now_of c.loop-number.world in
    let y = now_of c.rejoin.new.world in
    let f = c.loop-number.invariant.fewer in
    let joined = rw c.if-not-branch.false at c.in_ok-rejoin.ensures.joined in
    let g = rw c.if-not-branch.false at c.in_ok-rejoin.ensures.fewer in
    let others = rw c.if-not-branch.false at c.in_ok-rejoin.ensures.others in
    let bound = numbers_of (drop (length c.args.newly.now) c.loop-number.newly) in
    let all = numbers_of c.loop-number.newly in
    let later = numbers_of c.rejoin.new.newly in
    record {
      goes = goes_then c.args.atoms.now w x y _ _ (to_do [] (drop (i + 1) ns) (numbers_of (drop (length c.args.newly.now) c.rejoin.new.newly)) later)
          (up_to (goal.at.loop-number-preserved c).After-rejoin)
          (subst (λ (b : List ℕ). GoesOn c.args.atoms.now x y (to_do [] (c.number-item.result ∷ drop (i + 1) ns) bound all) (to_do [] (drop (i + 1) ns) b later))
          (behind_then c.args.newly.now c.loop-number.newly c.rejoin.new.newly f.more g.more f.list g.list) (joined (drop (i + 1) ns) bound));
      waits = wait_on c.loop-number.world.attrs.now c.rejoin.new.world.attrs.now ns i c.number-item.result at c.number-item.is c.requires.ascending c.loop-number.invariant.waits others;
      fewer = fewer_then w x y c.args.newly.now c.loop-number.newly c.rejoin.new.newly f g;
      marks = marks_then _ _ _ c.loop-number.invariant.marks c.rejoin.ensures.marks;
    }

pub returns-in_err-rejoin-clause-overflow : goal.returns-in_err-rejoin-clause-overflow
returns-in_err-rejoin-clause-overflow c = λ pair e.
    of_before c.args.atoms.now (now_of c.args.world.now) (now_of c.loop-number.world) _ _ (λ st p u. MayRefuse st p pair)
    (up_to (goal.at.returns-in_err-rejoin-clause-overflow c).After-rejoin)
    (c.in_err-rejoin.ensures.overflow pair (ap Err (passed c.from_residual.result c.in_err-rejoin.field-0.0 pair c.from_residual.ensures.1 e)) _ _)

pub returns-in_err-rejoin-clause-pivots : goal.returns-in_err-rejoin-clause-pivots
returns-in_err-rejoin-clause-pivots c = λ n e.
    let o = c.in_err-rejoin.ensures.pivots n (ap Err (store_spent c.from_residual.result c.in_err-rejoin.field-0.0 n c.from_residual.ensures.1 e)) in (
      o.0 ∙ c.loop-number.invariant.marks.pivots,
      of_before c.args.atoms.now (now_of c.args.world.now) (now_of c.loop-number.world) _ _ (λ st p u. MayTake st p n)
          (up_to (goal.at.returns-in_err-rejoin-clause-pivots c).After-rejoin) (o.1 _ _),
    )

pub returns-then-not-branch-clause-looked : goal.returns-then-not-branch-clause-looked
returns-then-not-branch-clause-looked c =
    of_before c.args.atoms.now (now_of c.args.world.now) (now_of c.loop-number.world) _ _ IsPruned (up_to (goal.at.returns-then-not-branch-clause-looked c).After-rejoin)
    ((rw c.if-not-branch.true at c.in_ok-rejoin.ensures.joined) _ _)

pub returns-clause-looked : goal.returns-clause-looked
returns-clause-looked c =
    let ns = c.args.woken.now in
    let all : length ns ≤ c.loop-number.number-index = omega (arith, c.loop-number-test.false) in
    subst (λ (ms : List ℕ). GoesOn c.args.atoms.now (now_of c.args.world.now) (now_of c.loop-number.world) (to_do [] ns [] (numbers_of c.args.newly.now))
    (to_do [] ms (numbers_of (drop (length c.args.newly.now) c.loop-number.newly)) (numbers_of c.loop-number.newly))) (drop_all c.loop-number.number-index ns all)
    c.loop-number.invariant.goes
