use Rattle.std.proofs.Common.{◌≡◌, ◌≤◌, List, None, length}
use Rattle.std.specs.Prelude.{All}
use Rattle.spec_numbers.specs.Texts.{Text}
use Rattle.cq_term.specs.Meaning.{HeapTerm}
use Rattle.cq_goals.specs.Splitting.{all_resumed, IsLiveFrame, all_work}
use Rattle.cq_goals.proofs.halves.next_side.Given as goal

abbrev pub invariant-loop-frame : goal.invariant-loop-frame
invariant-loop-frame l = record {
  leads : (texts : List Text) (ts : List HeapTerm) → all_resumed texts ts l.path.items None ≡ all_resumed texts ts l.fn.path.items None;
  live : (texts : List Text) (ts : List HeapTerm) → All (IsLiveFrame texts ts) l.fn.path.items → All (IsLiveFrame texts ts) l.path.items;
  less : (ts : List HeapTerm) → all_work ts l.path.items ≤ all_work ts l.fn.path.items;
}

abbrev pub decreases-loop-frame : goal.decreases-loop-frame
decreases-loop-frame l = length l.path.items
