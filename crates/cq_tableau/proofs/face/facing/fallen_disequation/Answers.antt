use Rattle.std.proofs.Common.{arith}
use Rattle.cq_tableau.proofs.Faces.{one_apart}
use Rattle.cq_tableau.proofs.face.facing.fallen_disequation.Goals as goal
use Rattle.cq_tableau.proofs.face.facing.fallen_disequation.Goals.{else-is_of_disequation-via-then-is_of_disequation+else-is_zero_now, else-is_of_disequation-via-else-is_of_disequation}

pub returns-then-is_zero_now : goal.returns-then-is_zero_now
returns-then-is_zero_now c = (c.if-is_of_disequation.ensures, c.if-is_zero_now.ensures)

pub loop-q-preserved : goal.loop-q-preserved
loop-q-preserved c =
    one_apart c.args.told.now c.args.names.now.now c.args.dict.now.roles c.loop-q.q c.loop-q.invariant
    (elim c.else-is_of_disequation.branch [
      | else-is_of_disequation-via-then-is_of_disequation+else-is_zero_now w ↦ (λ m. w.if-is_zero_now.ensures)
      | else-is_of_disequation-via-else-is_of_disequation w ↦ (λ m. absurd (w.if-is_of_disequation.ensures m))
    ])

pub returns : goal.returns
returns c = λ z h m. c.loop-q.invariant z (omega (arith, h, c.loop-q-test.false, c.loop-q.auto.q-end, c.count-q-end.ensures.value)) m
