use Rattle.std.proofs.Common.{◌<◌, ◌≤◌, length, ap, ◌∙◌, arith}
use Rattle.cq_trail.specs.Counting.{counted}
use Rattle.cq_trail.proofs.Counting.{length-counted, own_take, counted_take}
use Rattle.cq_trail.proofs.counted.CountedUndo.forget.Goals as goal

pub returns-then-m-self-clause-saved : goal.returns-then-m-self-clause-saved
returns-then-m-self-clause-saved g c =
    let s = c.args.self.now in
    let own = g.T.Undo.saved s.inner in
    let low : c.args.m.number < length own = omega (arith, c.if-m-self.true, s.own_marks) in
    ap (λ l. counted l c.args.m.number (g.T.Undo.now c.forget.new.self)) c.forget.ensures.saved
    ∙ own_take own s.marks (g.T.Undo.now s.inner) c.args.m.number (g.T.Undo.now c.forget.new.self) low

pub returns-then-m-self-clause-room : goal.returns-then-m-self-clause-room
returns-then-m-self-clause-room g c =
    let s = c.args.self.now in
    let few : length (g.T.Undo.saved s.inner) ≤ s.marks = omega (arith, s.own_marks, s.within) in
    omega (arith, s.fits, length-counted (g.T.Undo.saved s.inner) s.marks (g.T.Undo.now s.inner) few)

pub returns-else-m-self-clause-saved : goal.returns-else-m-self-clause-saved
returns-else-m-self-clause-saved g c =
    let s = c.args.self.now in
    let own = g.T.Undo.saved s.inner in
    let few : length own ≤ s.marks = omega (arith, s.own_marks, s.within) in
    let low : length own ≤ c.args.m.number = omega (arith, c.if-m-self.false, s.own_marks) in
    let high : c.args.m.number ≤ s.marks = omega (arith, c.requires, length-counted own s.marks (g.T.Undo.now s.inner) few) in
    counted_take own s.marks (g.T.Undo.now s.inner) c.args.m.number low high

pub returns-else-m-self-clause-room : goal.returns-else-m-self-clause-room
returns-else-m-self-clause-room g c =
    let s = c.args.self.now in
    let few : length (g.T.Undo.saved s.inner) ≤ s.marks = omega (arith, s.own_marks, s.within) in
    omega (arith, s.fits, length-counted (g.T.Undo.saved s.inner) s.marks (g.T.Undo.now s.inner) few)
