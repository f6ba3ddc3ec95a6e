use Rattle.std.proofs.Common.{◌≡◌, ◌-◌}
use Rattle.cq_trail.specs.Counting.{counted}
use Rattle.cq_trail.proofs.counted.Counted.put_marks.Given as goal

abbrev pub invariant-loop-self : goal.invariant-loop-self
invariant-loop-self g l =
    record {
      now : g.T.Undo.now l.self.inner ≡ g.T.Undo.now l.fn.self.inner;
      marks : l.self.marks ≡ l.fn.self.marks;
      saved : counted (g.T.Undo.saved l.self.inner) l.self.marks (g.T.Undo.now l.self.inner) ≡ counted (g.T.Undo.saved l.fn.self.inner) l.fn.self.marks (g.T.Undo.now l.fn.self.inner);
    }

abbrev pub decreases-loop-self : goal.decreases-loop-self
decreases-loop-self g l = l.self.marks - l.self.own
