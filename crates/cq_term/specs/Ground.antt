-- Terms without variables.
use Rattle.std.specs.Prelude.{ℕ}
use Rattle.spec_terms.specs.Term.{Occurs}
use Rattle.cq_term.specs.Meaning.{HeapTerm}

-- no variable stands in the term
abbrev pub IsGround : HeapTerm → Type 0
IsGround t = (v : ℕ) → Occurs v t → ⊥
