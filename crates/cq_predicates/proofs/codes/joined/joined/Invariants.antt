use Rattle.std.proofs.Common.{drop, string_bytes}
use Rattle.cq_term.specs.Trees.{trees}
use Rattle.cq_predicates.specs.Elements.{kind_of}
use Rattle.cq_predicates.proofs.Standing.{Left}
use Rattle.cq_predicates.proofs.codes.joined.joined.Given as goal

abbrev pub invariant-loop-id : goal.invariant-loop-id
invariant-loop-id l =
    Left (kind_of l.kind) (trees l.atoms l.heap.now.terms l.elements) (trees l.atoms l.heap.now.terms (drop l.id-index l.elements)) (string_bytes l.text)
