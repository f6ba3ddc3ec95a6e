use Rattle.std.proofs.Common.{◌≡◌, ◌<◌, ◌-◌, length}
use Rattle.std.specs.Prelude.{pred}
use Rattle.spec_command.specs.Query.{before, lowers, upper, uppers}
use Rattle.cq_term.specs.Trees.{tree}
use Rattle.cq_built.specs.Growing.{Grows}
use Rattle.cq_interpreter.proofs.generation.building.constraints.Given as goal

abbrev pub invariant-loop-place : goal.invariant-loop-place
invariant-loop-place l = record {
  rest : l.rest < length l.heap.now.terms;
  built : tree l.atoms l.heap.now.terms l.rest ≡ before (lowers l.place (l.number - l.place)) (before (uppers 0 (pred l.number)) (upper (pred l.number)));
  grows : Grows l.fn.atoms l.fn.heap l.atoms l.heap;
}
