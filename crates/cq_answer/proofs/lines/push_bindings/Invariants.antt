use Rattle.std.proofs.Common.{◌≡◌, ◌++◌, map, take}
use Rattle.spec_answers.specs.Lines.{lines_text}
use Rattle.cq_term.specs.Trees.{tree}
use Rattle.cq_write.specs.Meaning.{operators}
use Rattle.cq_answer.specs.Shown.{bound_in}
use Rattle.cq_answer.specs.Lines.{binding_line}
use Rattle.cq_answer.proofs.lines.push_bindings.Given as goal

abbrev pub invariant-queries : goal.invariant-queries
invariant-queries l =
    let s = tree l.writing.atoms.now l.heap.now.images in
    l.out.items ≡ l.fn.out.items ++ lines_text (map (binding_line (operators l.writing.atoms.now l.writing.ops.now) l.writing.names.now s) (bound_in s (take l.named-index l.queries)))
