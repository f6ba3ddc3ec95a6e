use Rattle.std.proofs.Common.{◌≡◌, ◌++◌, map, take}
use Rattle.spec_answers.specs.Lines.{lines_text}
use Rattle.cq_write.specs.Meaning.{operators}
use Rattle.cq_answer.specs.Shown.{constraint_trees}
use Rattle.cq_answer.specs.Lines.{constraint_line}
use Rattle.cq_answer.proofs.lines.push_constraints.Given as goal

abbrev pub invariant-waiting : goal.invariant-waiting
invariant-waiting l =
    l.out.items
    ≡ l.fn.out.items ++ lines_text (map (constraint_line (operators l.writing.atoms.now l.writing.ops.now) l.writing.names.now) (constraint_trees l.writing.atoms.now l.heap.now (take l.waits-index l.waiting)))
