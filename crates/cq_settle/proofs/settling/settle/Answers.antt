use Rattle.std.proofs.Common.{◌∙◌, List, ℕ, ap, sym, subst}
use Rattle.cq_settle.specs.Contents.{Contents}
use Rattle.cq_settle.specs.Worlds.{now_of}
use Rattle.cq_settle.specs.Called.{SomeIsCalled, OfCalls}
use Rattle.cq_settle.specs.Settled.{IsKept, IsPruned, MayRefuse, MayTake}
use Rattle.cq_settle.proofs.Again.{no_room}
use Rattle.cq_settle.proofs.Idle.{idle_kept}
use Rattle.cq_settle.proofs.Marks.{mark_lives, went_back, marks_back, marks_on, parts_same}
use Rattle.cq_settle.proofs.settling.settle.Goals as goal

pub returns-then-branch-clause-woken : goal.returns-then-branch-clause-woken
returns-then-branch-clause-woken c =
    let f = c.store_and_numbers.ensures.fixes in
    let w = now_of c.args.world.now in
    subst (λ (goals : List ℕ). OfCalls c.args.atoms.now w c.args.work.newly c.args.work.told.items c.args.work.rows.items (λ st p u. IsKept c.args.atoms.now w w goals st p u))
    (sym c.new.ensures.items)
    (λ st p u k. idle_kept w c.args.work.newly c.args.work.told.items c.args.work.rows.items (c.in_ok-is_idle.ensures.idle c.if-branch.true) c.args.atoms.now st p u k
    c.store_and_numbers.ensures.solvable f.0 f.1)

pub returns-in_err-start-clause-marks : goal.returns-in_err-start-clause-marks
returns-in_err-start-clause-marks c =
    parts_same c.args.world.now c.mark.new.self c.in_err-start.ensures.err (ap (λ (x : Contents). x.pivots) c.mark.ensures.now) (no_room _ _ c.in_err-start.ensures.prepared)

pub run-requires : goal.run-requires
run-requires c =
    subst (λ (x : Contents). SomeIsCalled c.args.atoms.now x c.args.work.newly c.args.work.told.items c.args.work.rows.items) (sym c.mark.ensures.now) c.requires

pub forget-requires : goal.forget-requires
forget-requires c =
    mark_lives c.args.world.now c.mark.new.self c.run.new.world c.in_ok-start.start.number c.in_ok-start.ensures.mark c.in_ok-start.ensures.saved c.mark.ensures.now c.mark.ensures.room c.run.ensures.marks

pub returns-in-Ok-Woken-clause-woken : goal.returns-in-Ok-Woken-clause-woken
returns-in-Ok-Woken-clause-woken c =
    let texts = c.args.atoms.now in
    let x = now_of c.mark.new.self in
    let goals = c.in-Ok-Woken.goals.items in
    let h = rw c.in-Ok-Woken.field-0-is at c.in-Ok-Woken.ensures.woken in
    subst (λ (y : Contents). OfCalls texts y c.args.work.newly c.args.work.told.items c.args.work.rows.items (λ st p u. IsKept texts y (now_of c.forget.new.self) goals st p u)) c.mark.ensures.now
    (subst (λ (y : Contents). OfCalls texts x c.args.work.newly c.args.work.told.items c.args.work.rows.items (λ st p u. IsKept texts x y goals st p u)) (sym c.forget.ensures.now) h)

pub returns-in-Ok-Woken-clause-marks : goal.returns-in-Ok-Woken-clause-marks
returns-in-Ok-Woken-clause-marks c =
    marks_on c.args.world.now c.mark.new.self c.run.new.world c.in_ok-start.start.number c.in_ok-start.ensures.mark c.in_ok-start.ensures.saved c.mark.ensures.now c.mark.ensures.room c.run.ensures.marks
    c.forget.new.self c.forget.ensures.now c.forget.ensures.saved c.forget.ensures.room

pub undo-requires : goal.undo-requires
undo-requires c =
    mark_lives c.args.world.now c.mark.new.self c.run.new.world c.in_ok-start.start.number c.in_ok-start.ensures.mark c.in_ok-start.ensures.saved c.mark.ensures.now c.mark.ensures.room c.run.ensures.marks

pub returns-in-Ok-Pruned-clause-pruned : goal.returns-in-Ok-Pruned-clause-pruned
returns-in-Ok-Pruned-clause-pruned c =
    let h = rw c.in-Ok-Pruned.field-0-is at c.in-Ok-Pruned.ensures.pruned in
    subst (λ (y : Contents). OfCalls c.args.atoms.now y c.args.work.newly c.args.work.told.items c.args.work.rows.items IsPruned) c.mark.ensures.now h

pub returns-in-Ok-Pruned-clause-unchanged : goal.returns-in-Ok-Pruned-clause-unchanged
returns-in-Ok-Pruned-clause-unchanged c =
    went_back c.args.world.now c.mark.new.self c.run.new.world c.in_ok-start.start.number c.in_ok-start.ensures.mark c.in_ok-start.ensures.saved c.mark.ensures.now c.mark.ensures.room c.run.ensures.marks
    c.undo.new.self c.undo.ensures.now

pub returns-in-Ok-Pruned-clause-marks : goal.returns-in-Ok-Pruned-clause-marks
returns-in-Ok-Pruned-clause-marks c =
    marks_back c.args.world.now c.mark.new.self c.run.new.world c.in_ok-start.start.number c.in_ok-start.ensures.mark c.in_ok-start.ensures.saved c.mark.ensures.now c.mark.ensures.room c.run.ensures.marks
    c.undo.new.self c.undo.ensures.now c.undo.ensures.saved c.undo.ensures.room

pub undo-requires-in-Err : goal.undo-requires-in-Err
undo-requires-in-Err c =
    mark_lives c.args.world.now c.mark.new.self c.run.new.world c.in_ok-start.start.number c.in_ok-start.ensures.mark c.in_ok-start.ensures.saved c.mark.ensures.now c.mark.ensures.room c.run.ensures.marks

pub returns-in-Err-clause-err : goal.returns-in-Err-clause-err
returns-in-Err-clause-err c =
    went_back c.args.world.now c.mark.new.self c.run.new.world c.in_ok-start.start.number c.in_ok-start.ensures.mark c.in_ok-start.ensures.saved c.mark.ensures.now c.mark.ensures.room c.run.ensures.marks
    c.undo-in-Err.new.self c.undo-in-Err.ensures.now

pub returns-in-Err-clause-overflow : goal.returns-in-Err-clause-overflow
returns-in-Err-clause-overflow c = λ pair e.
    subst (λ (y : Contents). OfCalls c.args.atoms.now y c.args.work.newly c.args.work.told.items c.args.work.rows.items (λ st p u. MayRefuse st p pair)) c.mark.ensures.now
    (c.in-Err.ensures.overflow pair e)

pub returns-in-Err-clause-pivots : goal.returns-in-Err-clause-pivots
returns-in-Err-clause-pivots c = λ n e.
    let o = c.in-Err.ensures.pivots n e in (
      o.0 ∙ ap (λ (x : Contents). x.pivots) c.mark.ensures.now,
      subst (λ (y : Contents). OfCalls c.args.atoms.now y c.args.work.newly c.args.work.told.items c.args.work.rows.items (λ st p u. MayTake st p n)) c.mark.ensures.now o.1,
    )

pub returns-in-Err-clause-marks : goal.returns-in-Err-clause-marks
returns-in-Err-clause-marks c =
    marks_back c.args.world.now c.mark.new.self c.run.new.world c.in_ok-start.start.number c.in_ok-start.ensures.mark c.in_ok-start.ensures.saved c.mark.ensures.now c.mark.ensures.room c.run.ensures.marks
    c.undo-in-Err.new.self c.undo-in-Err.ensures.now c.undo-in-Err.ensures.saved c.undo-in-Err.ensures.room
