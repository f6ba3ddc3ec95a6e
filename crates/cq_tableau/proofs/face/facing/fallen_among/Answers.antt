use Rattle.std.proofs.Common.{◌<◌, length, arith}
use Rattle.std.specs.Prelude.{slice_index}
use Rattle.std.proofs.lemmas.List.Elements.{Contains-get_or}
use Rattle.cq_tableau.proofs.Faces.{one_apart_more}
use Rattle.cq_tableau.proofs.face.facing.fallen_among.Goals as goal
use Rattle.cq_tableau.proofs.face.facing.fallen_among.Goals.{else-is_of_disequation-via-then-is_of_disequation+else-is_zero_now, else-is_of_disequation-via-else-is_of_disequation}

pub is_zero_now-requires : goal.is_zero_now-requires
is_zero_now-requires c =
    let l : c.loop-q.q-index < length c.args.rows.now = omega arith in
    c.requires (slice_index c.args.rows.now c.loop-q.q-index) (Contains-get_or c.args.rows.now c.loop-q.q-index 0 l)

pub returns-then-is_zero_now : goal.returns-then-is_zero_now
returns-then-is_zero_now c = (c.if-is_of_disequation.ensures, c.if-is_zero_now.ensures)

pub loop-q-preserved : goal.loop-q-preserved
loop-q-preserved c =
    one_apart_more c.args.rows.now c.args.told.now c.args.names.now.now c.args.dict.now.roles c.loop-q.q-index c.loop-q.invariant
    (elim c.else-is_of_disequation.branch [
      | else-is_of_disequation-via-then-is_of_disequation+else-is_zero_now w ↦ (λ m. w.if-is_zero_now.ensures)
      | else-is_of_disequation-via-else-is_of_disequation w ↦ (λ m. absurd (w.if-is_of_disequation.ensures m))
    ])

pub returns : goal.returns
returns c = λ k h m. c.loop-q.invariant k (omega arith) m
