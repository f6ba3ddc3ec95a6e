use Rattle.std.proofs.Common.{◌++◌, take, arith, length-append, length-take}
use Rattle.std.proofs.lemmas.Result.{err_from_is_err_and}
use Rattle.cq_outside.proofs.Told.{consumes_more}
use Rattle.cq_outside.proofs.whole.read_whole.Goals as goal

pub returns-in_err-extend_from_slice-clause-part :
    goal.returns-in_err-extend_from_slice-clause-part
returns-in_err-extend_from_slice-clause-part g c =
    let p = err_from_is_err_and c.from_residual-in_err-extend_from_slice.result c.from_residual-in_err-extend_from_slice.ensures.1 in
    rw p.1 (
      c.pieces.bytes.items ++ take c.in_ok-n.n c.read.new.buf,
      record {
        consumed = consumes_more _ _ _ _ _ c.pieces.invariant.0.consumed c.in_ok-n.ensures.bytes.0;
        counted = grind (arith, length-append, length-take, c.in_ok-n.ensures.counts, c.in_ok-n.ensures.bound);
      },
    )
