use Rattle.std.proofs.Common.{◌≡◌, ℕ, ◌<◌, ◌≤◌, length, map, reverse, drop, All}
use Rattle.spec_terms.specs.Term.{apply}
use Rattle.cq_term.specs.Meaning.{at}
use Rattle.spec_numbers.specs.Prefixes.{IsPrefix}
use Rattle.cq_term.specs.Names.{HasNamesBelow}
use Rattle.cq_resolve.specs.Pattern.{read, IsNamedBelow}
use Rattle.cq_resolve.specs.Marks.{shown}
use Rattle.cq_resolve.specs.Building.{image_from}
use Rattle.cq_resolve.proofs.stored.building.build_in.Given as goal

abbrev pub invariant-loop-i : goal.invariant-loop-i
invariant-loop-i l = record {
  live : All (λ id. id < length l.heap.now.terms) l.built.items;
  built : map (at l.heap.now.terms) (reverse l.built.items) ≡ map (apply (image_from l.fn.heap.now.images l.first)) (read (drop l.i (map shown l.pattern)));
  terms : IsPrefix l.fn.heap.now.terms l.heap.now.terms;
  images : l.heap.now.images ≡ l.fn.heap.now.images;
  names : (n : ℕ) → All (IsNamedBelow n) (map shown l.pattern) → All (HasNamesBelow n) l.fn.heap.now.terms → All (HasNamesBelow n) l.heap.now.terms;
  saved : l.heap.saved ≡ l.fn.heap.saved;
  room : l.fn.heap.room ≤ l.heap.room;
}
