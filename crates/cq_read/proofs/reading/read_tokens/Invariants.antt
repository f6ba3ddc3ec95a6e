use Rattle.std.proofs.Common.{◌-◌, List, length}
use Rattle.spec_numbers.specs.Texts.{Text}
use Rattle.cq_term.specs.Texts.{KeepsTexts, AreDifferent}
use Rattle.cq_read.specs.Growth.{Grows}
use Rattle.cq_read.specs.Clauses.{KeepsNames}
use Rattle.cq_read.specs.Running.{IsRunning}
use Rattle.cq_read.proofs.reading.read_tokens.Given as goal

abbrev pub invariant-loop-from : goal.invariant-loop-from
invariant-loop-from l = record {
  running : IsRunning l.grammar.ops.now l.text l.from (length l.fn.heap.now.images) l.atoms l.heap.now l.clause l.place;
  known : (texts : List Text) → KeepsTexts l.atoms texts → AreDifferent texts → KeepsNames texts l.fn.heap.now l.fn.clause l.heap.now l.clause;
  heap : Grows l.fn.heap l.heap;
  kept : KeepsTexts l.fn.atoms l.atoms;
  different : AreDifferent l.atoms;
}

abbrev pub decreases-loop-from : goal.decreases-loop-from
decreases-loop-from l = length l.text - l.place
