use Rattle.std.proofs.Common.{◌≡◌, map, drop}
use Rattle.spec_search.specs.Builtins.{is_built_in}
use Rattle.cq_built.specs.Errors.{indicator_of}
use Rattle.cq_goals.specs.Declarations.{built_in_error}
use Rattle.cq_catch.proofs.revise.declaring.first_built_in.Given as goal

-- the predicates before have no error
abbrev pub invariant-loop-predicate : goal.invariant-loop-predicate
invariant-loop-predicate l =
    built_in_error is_built_in (map (indicator_of l.atoms) l.predicates) ≡ built_in_error is_built_in (map (indicator_of l.atoms) (drop l.predicate-index l.predicates))
