use Rattle.std.proofs.Common.{refl}
use Rattle.cq_read.proofs.Kept.{frames_kept}
use Rattle.cq_read.proofs.parse.folding.end_tail.Goals as goal

pub returns-in_ok-whole-in-CloseList-clause-step : goal.returns-in_ok-whole-in-CloseList-clause-step
returns-in_ok-whole-in-CloseList-clause-step c ops texts frames known live =
    let ts = c.args.heap.now.now.terms in
    let us = c.list.new.heap.now.terms in
    rw (c.in-CloseList.is, frames_kept texts ts us c.in_ok-whole-in-CloseList.ensures.heap.terms frames live, c.in_ok-whole-in-CloseList.ensures.list texts known) refl
