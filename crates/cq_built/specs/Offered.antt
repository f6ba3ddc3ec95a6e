-- Pairs of terms of a heap as what a predicate offers.
use Rattle.std.specs.Prelude.{ℕ, List, map}
use Rattle.spec_numbers.specs.Texts.{Text}
use Rattle.spec_terms.specs.Unifier.{Equation}
use Rattle.spec_builtins.specs.Alternatives.{◌≐◌}
use Rattle.spec_builtins.specs.Alternatives as definition
use Rattle.cq_term.specs.Meaning.{HeapTerm}
use Rattle.cq_term.specs.Trees.{tree}
use Rattle.cq_term.specs.declared.walk.pairs.Pair.{Pair}
use Rattle.cq_built.specs.declared.alternatives.Alternative.{Alternative}

-- the two terms of a pair
abbrev pub equation_of : List Text → List HeapTerm → Pair → Equation Text
equation_of texts ts p = tree texts ts p.left ≐ tree texts ts p.right

-- the pairs over so many new variables
abbrev pub alternative_of : List Text → List HeapTerm → ℕ → Alternative → definition.Alternative
alternative_of texts ts new a = record { new = new; equations = map (equation_of texts ts) a.pairs.items }
