use Rattle.std.proofs.Common.{List, drop, string_bytes}
use Rattle.spec_numbers.specs.Texts.{Text}
use Rattle.cq_term.specs.Trees.{trees}
use Rattle.cq_predicates.proofs.Standing.{LeftCodes}
use Rattle.cq_predicates.proofs.codes.joined.joined_codes.Given as goal

abbrev pub invariant-loop-id : goal.invariant-loop-id
invariant-loop-id l =
    (texts : List Text) → LeftCodes (trees texts l.heap.now.terms l.elements) (trees texts l.heap.now.terms (drop l.id-index l.elements)) (string_bytes l.text)
