use Rattle.std.proofs.Common.{◌≡◌, ◌<◌, ℕ, List, length, map, nat_eq, All}
use Rattle.std.specs.Prelude.{filter}
use Rattle.std.specs.List.{sum_by}
use Rattle.indexmap.specs.IndexMap.{get}
use Rattle.spec_terms.specs.Term.{size}
use Rattle.spec_terms.specs.Variables.{variables}
use Rattle.spec_terms.specs.VariableName.{VariableName}
use Rattle.spec_text.specs.Written.{is_unnamed}
use Rattle.cq_term.specs.Meaning.{at}
use Rattle.cq_unify.specs.Listing.{variables_through}
use Rattle.cq_write.specs.Naming.{AreFound}
use Rattle.cq_write.proofs.variables.unnamed_of.Given as goal

abbrev pub invariant-loop-id : goal.invariant-loop-id
invariant-loop-id l = record {
  live : All (λ id. id < length l.heap.now.terms) l.work.items;
  unnamed : (names : List VariableName) → AreFound names (get nat_eq l.fn.given) →
      (vs : List ℕ) × (l.unnamed.keys ≡ filter (is_unnamed names) vs) × (variables_through vs (map (at l.heap.now.terms) l.work.items) ≡ variables (at l.heap.now.terms l.fn.term));
}

abbrev pub decreases-loop-id : goal.decreases-loop-id
decreases-loop-id l = sum_by size (map (at l.heap.now.terms) l.work.items)
