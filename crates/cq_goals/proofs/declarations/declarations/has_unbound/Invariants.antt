use Rattle.std.proofs.Common.{◌≡◌, drop}
use Rattle.std.specs.List.{list_any}
use Rattle.spec_builtins.specs.Clauses.{is_unbound_indicator}
use Rattle.cq_term.specs.Trees.{trees}
use Rattle.cq_goals.proofs.declarations.declarations.has_unbound.Given as goal

abbrev pub invariant-loop-id : goal.invariant-loop-id
invariant-loop-id l = list_any is_unbound_indicator (trees l.atoms l.heap.now.terms l.ids) ≡ list_any is_unbound_indicator (trees l.atoms l.heap.now.terms (drop l.id-index l.ids))
