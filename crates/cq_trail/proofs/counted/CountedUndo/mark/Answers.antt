use Rattle.std.proofs.Common.{◌≤◌, length, sym, arith}
use Rattle.cq_trail.proofs.Counting.{length-counted, counted_push}
use Rattle.cq_trail.proofs.counted.CountedUndo.mark.Goals as goal

pub returns-clause-mark : goal.returns-clause-mark
returns-clause-mark g c =
    let s = c.args.self.now in
    let few : length (g.T.Undo.saved s.inner) ≤ s.marks = omega (arith, s.own_marks, s.within) in
    sym (length-counted (g.T.Undo.saved s.inner) s.marks (g.T.Undo.now s.inner) few)

pub returns-clause-saved : goal.returns-clause-saved
returns-clause-saved g c =
    let s = c.args.self.now in
    let few : length (g.T.Undo.saved s.inner) ≤ s.marks = omega (arith, s.own_marks, s.within) in
    counted_push (g.T.Undo.saved s.inner) s.marks (g.T.Undo.now s.inner) few
