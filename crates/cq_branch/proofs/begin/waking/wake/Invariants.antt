use Rattle.std.proofs.Common.{◌≡◌, ◌<◌, ◌++◌, length, vec_len}
use Rattle.cq_control.specs.Items.{items_at}
use Rattle.cq_branch.specs.Lists.{KeepsLists}
use Rattle.cq_branch.specs.Begun.{calls}
use Rattle.cq_branch.proofs.begin.waking.wake.Given as goal

abbrev pub invariant-loop-goal : goal.invariant-loop-goal
invariant-loop-goal l = record {
  there : l.first < length l.lists.now;
  cells : calls l.goals.items ++ items_at l.lists.now l.first ≡ calls l.fn.goals.items ++ items_at l.fn.lists.now l.fn.rest;
  keeps : KeepsLists l.fn.lists.now l.lists.now;
  saved : l.lists.saved ≡ l.fn.lists.saved;
}

abbrev pub decreases-loop-goal : goal.decreases-loop-goal
decreases-loop-goal l = vec_len l.goals
