use Rattle.std.proofs.Common.{◌≡◌, ◌<◌, ℕ, length, map, All}
use Rattle.std.specs.Prelude.{Contains}
use Rattle.std.specs.List.{sum_by}
use Rattle.spec_terms.specs.Term.{size}
use Rattle.spec_terms.specs.Variables.{variables as variables_of_term}
use Rattle.cq_term.specs.Meaning.{at}
use Rattle.cq_term.specs.Shown.{IsUnbound}
use Rattle.cq_term.specs.Places.{numbers_of}
use Rattle.cq_unify.specs.Listing.{variables_through}
use Rattle.cq_unify.proofs.Visited.{AreVisited}
use Rattle.cq_unify.proofs.variables.variables.Given as goal

abbrev pub invariant-loop-id : goal.invariant-loop-id
invariant-loop-id l = record {
  live : All (λ id. id < length l.heap.now.terms) l.work.items;
  variables : variables_through (numbers_of l.found.keys) (map (at l.heap.now.terms) l.work.items) ≡ variables_of_term (at l.heap.now.terms l.fn.term);
  visited : (v : ℕ) → AreVisited l.heap.now.terms (Contains (numbers_of l.found.keys) v) v l.work.items l.visited.known;
  unbound : All (λ v. IsUnbound l.heap.now.images v.0) l.found.keys;
}

abbrev pub decreases-loop-id : goal.decreases-loop-id
decreases-loop-id l = sum_by size (map (at l.heap.now.terms) l.work.items)
