-- The names of a clause's variables.
use Rattle.std.specs.Prelude.{List, [], ◌∷◌, length, ⊤}
use Rattle.spec_syntax.specs.TextTokens.{VariableName, Variables}
use Rattle.cq_term.specs.Meaning.{HeapTerm}
use Rattle.cq_term.specs.Shown.{IsUnbound}

-- the variables so far: those with names, and how many the heap has
abbrev pub variables : List VariableName → List HeapTerm → Variables
variables names images = record { names = names; count = length images }

-- each variable is unbound
abbrev pub AreUnbound : List HeapTerm → List VariableName → Type 0
AreUnbound images [] = ⊤
AreUnbound images (v ∷ names) = IsUnbound images v.number × AreUnbound images names
