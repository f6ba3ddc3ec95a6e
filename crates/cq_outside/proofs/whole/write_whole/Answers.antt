use Rattle.std.proofs.Common.{arith, length-take, length-drop}
use Rattle.std.proofs.lemmas.List.{take_rest}
use Rattle.std.proofs.lemmas.Result.{err_from_is_err_and}
use Rattle.std.proofs.Math.Seq.{take-add}
use Rattle.cq_outside.proofs.Told.{appends_more, adds, begins_take}
use Rattle.cq_outside.proofs.whole.write_whole.Goals as goal

pub returns-in_err-at-clause-part : goal.returns-in_err-at-clause-part
returns-in_err-at-clause-part g c =
    let p = err_from_is_err_and c.from_residual.result c.from_residual.ensures.1 in
    rw p.1 (adds _ _ _ _ _ c.loop-at.invariant.1 c.in_err-at.ensures.bytes (begins_take c.loop-at.at c.args.text.now))

pub loop-at-preserved : goal.loop-at-preserved
loop-at-preserved g c = (
  omega (arith, simp (length-take, length-drop) at c.in_ok-at.ensures.bound),
  rw take-add (appends_more _ _ _ _ _ c.loop-at.invariant.1 (rw take_rest at c.in_ok-at.ensures.bytes)),
  omega (arith, c.in_ok-at.ensures.cause),
)
