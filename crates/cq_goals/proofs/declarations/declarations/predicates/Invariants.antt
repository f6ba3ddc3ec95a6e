use Rattle.std.proofs.Common.{◌≡◌, ◌<◌, ◌++◌, length, drop}
use Rattle.std.specs.Prelude.{All, map}
use Rattle.spec_builtins.specs.Clauses.{declared}
use Rattle.cq_term.specs.Trees.{trees}
use Rattle.cq_built.specs.Errors.{indicator_of}
use Rattle.cq_goals.specs.Declarations.{indicators_error}
use Rattle.cq_goals.proofs.declarations.declarations.predicates.Given as goal

abbrev pub invariant-loop-id : goal.invariant-loop-id
invariant-loop-id l = record {
  error : indicators_error (trees l.atoms l.heap.now.terms l.ids) ≡ indicators_error (trees l.atoms l.heap.now.terms (drop l.id-index l.ids));
  declared : map (indicator_of l.atoms) l.found.items ++ map declared (trees l.atoms l.heap.now.terms (drop l.id-index l.ids)) ≡ map declared (trees l.atoms l.heap.now.terms l.ids);
  known : All (λ p. p.name < length l.atoms) l.found.items;
}
