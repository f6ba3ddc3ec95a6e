-- What calls of predicates with terms of a heap give.
use Rattle.std.specs.Prelude.{ℕ, List, length}
use Rattle.spec_numbers.specs.Texts.{Text}
use Rattle.spec_builtins.specs.Alternatives.{Solutions}
use Rattle.spec_search.specs.Calls.{solutions_of}
use Rattle.cq_term.specs.HeapValue.{Terms}
use Rattle.cq_term.specs.Trees.{trees}
use Rattle.cq_predicates.specs.declared.predicates.Predicate.{Predicate}
use Rattle.cq_predicates.specs.Names.{as_predicate}

-- the heap's next variable is new
abbrev pub solutions_on : List Text → Terms → Predicate → List ℕ → Solutions
solutions_on texts h p args = solutions_of (as_predicate p) (length h.images) (trees texts h.terms args)
