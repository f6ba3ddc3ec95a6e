-- What predicates give of the terms of a heap.
use Rattle.std.specs.Prelude.{◌≡◌, ℕ, List, [], ◌∷◌}
use Rattle.spec_numbers.specs.Texts.{Text}
use Rattle.spec_terms.specs.Unifier.{Equation}
use Rattle.spec_syntax.specs.Trees.{list_tree}
use Rattle.spec_builtins.specs.Alternatives.{Solutions, Faults, ◌≐◌, one_way}
use Rattle.spec_builtins.specs.Terms.{order_row, arg_row, is_argument, argument_at, arguments, univ_row, univ_built}
use Rattle.cq_term.specs.Meaning.{HeapTerm}
use Rattle.cq_term.specs.Trees.{tree, trees}
use Rattle.cq_term.specs.declared.walk.pairs.Pair.{Pair}
use Rattle.cq_built.specs.Errors.{error_tree}
use Rattle.cq_built.specs.Offered.{equation_of}
use Rattle.cq_built.specs.declared.errors.BuiltinError.{BuiltinError}
use Rattle.cq_builtin.specs.Rows.{comparison_of}
use Rattle.cq_builtin.specs.declared.comparisons.Comparison.{Comparison}

-- ---- what is given

-- one way, of this pair
abbrev pub OffersPair : List Text → List HeapTerm → Solutions → Pair → Type 0
OffersPair texts ts s p = s ≡ one_way (equation_of texts ts p ∷ [])

-- this error
abbrev pub GivesError : List Text → List HeapTerm → Solutions → BuiltinError → Type 0
GivesError texts ts s e = s ≡ Faults (error_tree texts ts e)

-- ---- of which terms

-- two terms in the standard order
abbrev pub order_of : List Text → List HeapTerm → Comparison → ℕ → ℕ → Solutions
order_of texts ts c left right = order_row (comparison_of c) (tree texts ts left) (tree texts ts right)

-- arg of a place, a term and an argument
abbrev pub arg_of : List Text → List HeapTerm → ℕ → ℕ → ℕ → Solutions
arg_of texts ts number term argument = arg_row (tree texts ts number) (tree texts ts term) (tree texts ts argument)

-- the argument of a term at a place, counted from 1, is this one
abbrev pub argument_of : List Text → List HeapTerm → ℕ → ℕ → ℕ → Solutions
argument_of texts ts number term argument = is_argument (argument_at number (arguments (tree texts ts term))) (tree texts ts argument)

-- =.. of a term and a list
abbrev pub univ_of : List Text → List HeapTerm → ℕ → ℕ → Solutions
univ_of texts ts term list = univ_row (tree texts ts term) (tree texts ts list)

-- the same of an unbound term and the elements of a list
abbrev pub univ_built_of : List Text → List HeapTerm → ℕ → List ℕ → Solutions
univ_built_of texts ts term elements = univ_built (tree texts ts term) (trees texts ts elements)

-- a list is to be that of a term alone
abbrev pub list_of_one : List Text → List HeapTerm → ℕ → ℕ → Equation Text
list_of_one texts ts list term = tree texts ts list ≐ list_tree (tree texts ts term ∷ [])
