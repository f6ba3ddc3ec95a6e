use Rattle.std.proofs.Common.{◌<◌, ◌≤◌, length, ap₂, sym, ◌∙◌, arith}
use Rattle.cq_trail.specs.Counting.{counted}
use Rattle.cq_trail.proofs.Counting.{counted_all, counted_own}
use Rattle.cq_trail.proofs.counted.Counted.put_marks.Goals as goal

pub loop-self-preserved : goal.loop-self-preserved
loop-self-preserved g c =
    let own = g.T.Undo.saved c.loop-self.self.inner in
    let n = c.loop-self.self.marks in
    let few : length own < n = omega (arith, c.loop-self-test.true, c.loop-self.self.own_marks) in
    record {
      now = c.mark.ensures.now ∙ c.loop-self.invariant.now;
      marks = c.loop-self.invariant.marks;
      saved = ap₂ (λ s v. counted s n v) c.in_ok-mark.ensures.saved c.mark.ensures.now
          ∙ counted_own own n (g.T.Undo.now c.loop-self.self.inner) few
          ∙ c.loop-self.invariant.saved;
    }

pub returns-in_err-mark-clause-saved : goal.returns-in_err-mark-clause-saved
returns-in_err-mark-clause-saved g c =
    ap₂ (λ s v. counted s c.loop-self.self.marks v) c.in_err-mark.ensures.err c.mark.ensures.now ∙ c.loop-self.invariant.saved

pub returns-clause-put : goal.returns-clause-put
returns-clause-put g c =
    let own = g.T.Undo.saved c.loop-self.self.inner in
    let all : c.loop-self.self.marks ≤ length own = omega (arith, c.loop-self-test.false, c.loop-self.self.own_marks) in
    sym (counted_all own c.loop-self.self.marks (g.T.Undo.now c.loop-self.self.inner) all) ∙ c.loop-self.invariant.saved
