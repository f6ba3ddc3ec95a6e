use Rattle.std.proofs.Common.{◌≡◌, List, drop}
use Rattle.std.specs.List.{list_any}
use Rattle.spec_numbers.specs.Texts.{Text}
use Rattle.spec_builtins.specs.Kinds.{is_variable}
use Rattle.cq_term.specs.Trees.{trees}
use Rattle.cq_predicates.proofs.codes.lists.has_variable.Given as goal

abbrev pub invariant-loop-id : goal.invariant-loop-id
invariant-loop-id l =
    (texts : List Text) → list_any is_variable (trees texts l.heap.now.terms (drop l.id-index l.elements)) ≡ list_any is_variable (trees texts l.heap.now.terms l.elements)
