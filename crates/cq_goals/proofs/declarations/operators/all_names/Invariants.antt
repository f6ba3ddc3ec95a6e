use Rattle.std.proofs.Common.{◌≡◌, List, drop}
use Rattle.std.specs.List.{list_all}
use Rattle.spec_numbers.specs.Texts.{Text}
use Rattle.spec_builtins.specs.Kinds.{is_name}
use Rattle.cq_term.specs.Trees.{trees}
use Rattle.cq_goals.proofs.declarations.operators.all_names.Given as goal

abbrev pub invariant-loop-id : goal.invariant-loop-id
invariant-loop-id l = (texts : List Text) → list_all is_name (trees texts l.heap.now.terms l.ids) ≡ list_all is_name (trees texts l.heap.now.terms (drop l.id-index l.ids))
