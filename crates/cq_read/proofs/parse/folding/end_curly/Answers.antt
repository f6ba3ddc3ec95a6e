use Rattle.std.proofs.Common.{refl, codes}
use Rattle.cq_read.proofs.Kept.{frames_kept}
use Rattle.cq_read.proofs.Trees.{curly_tree, is_known}
use Rattle.cq_read.proofs.parse.folding.end_curly.Goals as goal

pub returns-in_ok-whole-in-CloseCurly-clause-step : goal.returns-in_ok-whole-in-CloseCurly-clause-step
returns-in_ok-whole-in-CloseCurly-clause-step c ops texts frames known live =
    let ts = c.args.heap.now.now.terms in
    let us = c.compound.new.heap.now.terms in
    let whole = curly_tree texts ts us c.args.names.now.curly c.args.operand c.in_ok-whole-in-CloseCurly.whole (codes "{}") c.in_ok-whole-in-CloseCurly.ensures.built known.curly in
    rw (c.in-CloseCurly.is, frames_kept texts ts us c.in_ok-whole-in-CloseCurly.ensures.heap.terms frames live, whole) refl

pub returns-in_ok-whole-in-CloseCurly-clause-names : goal.returns-in_ok-whole-in-CloseCurly-clause-names
returns-in_ok-whole-in-CloseCurly-clause-names c texts known = c.in_ok-whole-in-CloseCurly.ensures.names texts (is_known texts c.args.names.now.curly (codes "{}") known.curly)
