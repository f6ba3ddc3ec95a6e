use Rattle.std.proofs.Common.{◌≡◌, ◌++◌, ◌≤◌, ◌-◌, drop, take, length}
use Rattle.cq_lint.specs.Lines.{shown_from}
use Rattle.cq_lint.proofs.lines.shown_len.Given as goal

abbrev pub invariant-loop-shown : goal.invariant-loop-shown
invariant-loop-shown l = record {
  within : l.shown ≤ length l.line;
  same : take l.shown l.line ++ shown_from l.shown (drop l.shown l.line) ≡ shown_from 0 l.line;
}

abbrev pub decreases-loop-shown : goal.decreases-loop-shown
decreases-loop-shown l = length l.line - l.shown
