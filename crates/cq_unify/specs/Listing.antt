-- The variables of the terms that are still to be visited.
use Rattle.std.specs.Prelude.{ℕ, List, [], ◌∷◌}
use Rattle.spec_terms.specs.Variables.{variables_after}
use Rattle.cq_term.specs.Meaning.{HeapTerm}

-- the variables seen so far, then those of the terms that are new, where the last term is visited first
abbrev pub variables_through : List ℕ → List HeapTerm → List ℕ
variables_through vs [] = vs
variables_through vs (t ∷ ts) = variables_after (variables_through vs ts) t
