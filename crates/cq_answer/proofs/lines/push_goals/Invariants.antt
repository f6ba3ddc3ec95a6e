use Rattle.std.proofs.Common.{◌≡◌, ◌++◌, map, take}
use Rattle.spec_answers.specs.Lines.{lines_text}
use Rattle.cq_write.specs.Meaning.{operators}
use Rattle.cq_answer.specs.Shown.{goal_trees}
use Rattle.cq_answer.specs.Lines.{goal_line}
use Rattle.cq_answer.proofs.lines.push_goals.Given as goal

abbrev pub invariant-waiting : goal.invariant-waiting
invariant-waiting l = record {
  lines : l.out.items
      ≡ l.fn.out.items ++ lines_text (map (goal_line (operators l.writing.atoms.now l.writing.ops.now) l.writing.names.now) (goal_trees l.writing.atoms.now l.fn.heap.now (take l.waits-index l.waiting)));
  now : l.heap.now ≡ l.fn.heap.now;
  saved : l.heap.saved ≡ l.fn.heap.saved;
}
