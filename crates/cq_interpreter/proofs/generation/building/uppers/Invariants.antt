use Rattle.std.proofs.Common.{◌≡◌, ◌<◌, ◌-◌, length}
use Rattle.spec_command.specs.Query.{before, upper, uppers}
use Rattle.cq_term.specs.Trees.{tree}
use Rattle.cq_built.specs.Growing.{Grows}
use Rattle.cq_interpreter.proofs.generation.building.uppers.Given as goal

abbrev pub invariant-loop-number : goal.invariant-loop-number
invariant-loop-number l = record {
  rest : l.rest < length l.heap.now.terms;
  built : tree l.atoms l.heap.now.terms l.rest ≡ before (uppers l.number (l.last - l.number)) (upper l.last);
  grows : Grows l.fn.atoms l.fn.heap l.atoms l.heap;
}
