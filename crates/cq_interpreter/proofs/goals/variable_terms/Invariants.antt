use Rattle.std.proofs.Common.{◌≡◌, ◌<◌, All, map, length}
use Rattle.spec_terms.specs.Variables.{counted_from}
use Rattle.cq_term.specs.Meaning.{at}
use Rattle.cq_interpreter.proofs.goals.variable_terms.Given as goal

abbrev pub invariant-loop-number : goal.invariant-loop-number
invariant-loop-number l = record {
  live : All (λ id. id < length l.heap.now.terms) l.ids.items;
  terms : map (at l.heap.now.terms) l.ids.items ≡ map (at l.heap.now.images) (counted_from 0 l.number);
}
