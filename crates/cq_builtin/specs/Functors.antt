-- What functor gives of terms of a heap.
use Rattle.std.specs.Prelude.{◌≡◌, ℕ, List, [], ◌∷◌, map, length}
use Rattle.spec_numbers.specs.Texts.{Text}
use Rattle.spec_terms.specs.Term.{Var, with_arguments}
use Rattle.spec_terms.specs.Unifier.{Equation}
use Rattle.spec_terms.specs.Variables.{counted_from}
use Rattle.spec_syntax.specs.Trees.{Tree, natural}
use Rattle.spec_builtins.specs.Alternatives.{Solutions, Faults, ◌≐◌}
use Rattle.spec_builtins.specs.Terms.{functor_row, functor_built}
use Rattle.cq_term.specs.HeapValue.{Terms}
use Rattle.cq_term.specs.Meaning.{HeapTerm}
use Rattle.cq_term.specs.Trees.{tree}
use Rattle.cq_built.specs.Errors.{error_tree}
use Rattle.cq_built.specs.declared.errors.BuiltinError.{BuiltinError}

-- what it gives of a term, its name and its number of arguments, where the heap's next variable is new
abbrev pub functor_of : List Text → Terms → ℕ → ℕ → ℕ → Solutions
functor_of texts h term name arity = functor_row (length h.images) (tree texts h.terms term) (tree texts h.terms name) (tree texts h.terms arity)

-- the name and the number of arguments with those that were found
abbrev pub names_of : List Text → List HeapTerm → ℕ → ℕ → ℕ → ℕ → List (Equation Text)
names_of texts ts name found arity count = (tree texts ts name ≐ tree texts ts found) ∷ (tree texts ts arity ≐ natural count) ∷ []

-- what it gives where so many arguments are asked for
abbrev pub built_of : List Text → Terms → ℕ → ℕ → ℕ → Solutions
built_of texts h term name count = functor_built (length h.images) (tree texts h.terms term) (tree texts h.terms name) count

-- what it gives of an unbound term
abbrev pub unbound_row : List Text → List HeapTerm → ℕ → ℕ → ℕ → ℕ → Solutions
unbound_row texts ts fresh v name arity = functor_row fresh (Var v) (tree texts ts name) (tree texts ts arity)

-- of an unbound term so many arguments are asked for
abbrev pub AsksArity : List HeapTerm → ℕ → ℕ → ℕ → Type 0
AsksArity ts name arity count = (texts : List Text) (fresh v : ℕ) → unbound_row texts ts fresh v name arity ≡ functor_built fresh (Var v) (tree texts ts name) count

-- of an unbound term it gives this error
abbrev pub RefusesArity : List HeapTerm → ℕ → ℕ → BuiltinError → Type 0
RefusesArity ts name arity e = (texts : List Text) (fresh v : ℕ) → unbound_row texts ts fresh v name arity ≡ Faults (error_tree texts ts e)

-- a name over so many variables from the first one on
abbrev pub open_tree : Text → ℕ → ℕ → Tree
open_tree f first count = with_arguments f (map Var (counted_from first count))
