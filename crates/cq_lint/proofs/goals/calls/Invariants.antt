use Rattle.std.proofs.Common.{◌≡◌, [], take}
use Rattle.std.specs.Prelude.{fold}
use Rattle.cq_term.specs.Trees.{trees}
use Rattle.cq_lint.specs.Goals.{with_called}
use Rattle.cq_lint.proofs.goals.calls.Given as goal

abbrev pub invariant-loop-part : goal.invariant-loop-part
invariant-loop-part l = l.called.items ≡ fold with_called [] (trees l.atoms l.heap.now.terms (take l.part-index l.part-items))
