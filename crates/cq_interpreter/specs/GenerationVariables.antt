-- Variables of a heap of which nothing is known.
use Rattle.std.specs.Prelude.{◌≡◌, ℕ, ◌<◌, List, length}
use Rattle.spec_terms.specs.Term.{Var}
use Rattle.cq_term.specs.Meaning.{HeapTerm, at}

-- each variable is its own image
abbrev pub AreUnbound : List HeapTerm → Type 0
AreUnbound images = (v : ℕ) → v < length images → at images v ≡ Var v
