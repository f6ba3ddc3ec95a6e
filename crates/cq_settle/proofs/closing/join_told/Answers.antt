use Rattle.std.proofs.Common.{◌+◌, ◌≤◌, ◌∙◌, [], ◌∷◌, List, ℕ, Err, length, drop, ap, refl, subst, arith}
use Rattle.std.proofs.lemmas.List.{drop_all}
use Rattle.cq_store.proofs.Passed.{passed, store_spent}
use Rattle.cq_term.specs.Places.{numbers_of}
use Rattle.cq_settle.specs.Worlds.{now_of}
use Rattle.cq_settle.specs.Settled.{IsPruned, MayRefuse, MayTake}
use Rattle.cq_settle.specs.Underway.{GoesOn, to_do}
use Rattle.cq_settle.proofs.Again.{at_term}
use Rattle.cq_settle.proofs.Marks.{marks_then}
use Rattle.cq_settle.proofs.Ways.{goes_nowhere, goes_then, of_before, some_after}
use Rattle.cq_settle.proofs.closing.join_told.Goals as goal
use Rattle.cq_settle.proofs.closing.join_told.Goals.{After-join_term}

pub loop-term-init : goal.loop-term-init
loop-term-init c = record {
  goes = goes_nowhere c.args.atoms.now (now_of c.args.world.now) (to_do c.args.told.now [] (numbers_of c.args.newly.now) (numbers_of c.args.newly.now));
  marks = record { heap = refl; attrs = refl; store = refl; pivots = refl; room = omega arith };
}

-- up to a term
up_to : (c : After-join_term) → GoesOn c.args.atoms.now (now_of c.args.world.now) (now_of c.loop-term.world) (to_do c.args.told.now [] (numbers_of c.args.newly.now) (numbers_of c.args.newly.now))
    (to_do (c.term-item.result ∷ drop (c.loop-term.term-index + 1) c.args.told.now) [] (numbers_of c.loop-term.newly) (numbers_of c.loop-term.newly))
up_to c = at_term c.args.atoms.now (now_of c.args.world.now) (now_of c.loop-term.world) _ c.args.told.now c.loop-term.term-index c.term-item.result _
    (omega (arith, c.loop-term-test.true)) c.term-item.is c.loop-term.invariant.goes

pub join_term-requires : goal.join_term-requires
join_term-requires c = (
  drop (c.loop-term.term-index + 1) c.args.told.now,
  some_after c.args.atoms.now (now_of c.args.world.now) (now_of c.loop-term.world) _ _
      (at_term c.args.atoms.now (now_of c.args.world.now) (now_of c.loop-term.world) _ c.args.told.now c.loop-term.term-index c.term-item.result _
      (omega (arith, c.loop-term-test.true)) c.term-item.is c.loop-term.invariant.goes) c.requires,
)

pub loop-term-preserved : goal.loop-term-preserved
loop-term-preserved c =
    let joined = rw c.if-not-branch.false at c.in_ok-join_term.ensures.joined in
    record {
      goes = goes_then c.args.atoms.now (now_of c.args.world.now) (now_of c.loop-term.world) (now_of c.join_term.new.world) _ _ _ (up_to (goal.at.loop-term-preserved c).After-join_term) (joined _);
      marks = marks_then _ _ _ c.loop-term.invariant.marks c.join_term.ensures.marks;
    }

pub returns-then-not-branch-clause-joined : goal.returns-then-not-branch-clause-joined
returns-then-not-branch-clause-joined c =
    of_before c.args.atoms.now (now_of c.args.world.now) (now_of c.loop-term.world) _ _ IsPruned (up_to (goal.at.returns-then-not-branch-clause-joined c).After-join_term)
    ((rw c.if-not-branch.true at c.in_ok-join_term.ensures.joined) _)

pub returns-in_err-join_term-clause-overflow : goal.returns-in_err-join_term-clause-overflow
returns-in_err-join_term-clause-overflow c = λ pair e.
    of_before c.args.atoms.now (now_of c.args.world.now) (now_of c.loop-term.world) _ _ (λ st p u. MayRefuse st p pair)
    (up_to (goal.at.returns-in_err-join_term-clause-overflow c).After-join_term)
    (c.in_err-join_term.ensures.overflow pair (ap Err (passed c.from_residual.result c.in_err-join_term.field-0.0 pair c.from_residual.ensures.1 e)) _)

pub returns-in_err-join_term-clause-pivots : goal.returns-in_err-join_term-clause-pivots
returns-in_err-join_term-clause-pivots c = λ n e.
    let o = c.in_err-join_term.ensures.pivots n (ap Err (store_spent c.from_residual.result c.in_err-join_term.field-0.0 n c.from_residual.ensures.1 e)) in (
      o.0 ∙ c.loop-term.invariant.marks.pivots,
      of_before c.args.atoms.now (now_of c.args.world.now) (now_of c.loop-term.world) _ _ (λ st p u. MayTake st p n)
          (up_to (goal.at.returns-in_err-join_term-clause-pivots c).After-join_term) (o.1 _),
    )

pub returns-clause-joined : goal.returns-clause-joined
returns-clause-joined c =
    let told = c.args.told.now in
    let b = numbers_of c.loop-term.newly in
    let all : length told ≤ c.loop-term.term-index = omega (arith, c.loop-term-test.false) in
    subst (λ (ts : List ℕ). GoesOn c.args.atoms.now (now_of c.args.world.now) (now_of c.loop-term.world) (to_do told [] (numbers_of c.args.newly.now) (numbers_of c.args.newly.now)) (to_do ts [] b b))
    (drop_all c.loop-term.term-index told all) c.loop-term.invariant.goes
