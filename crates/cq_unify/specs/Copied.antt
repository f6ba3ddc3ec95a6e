-- Variables that are new.
use Rattle.std.specs.Prelude.{ℕ, List, map}
use Rattle.spec_terms.specs.Term.{Var}
use Rattle.spec_terms.specs.Variables.{counted_from}
use Rattle.cq_term.specs.Meaning.{HeapTerm}

-- so many variables that are unbound, numbered from n on
abbrev pub unbound_from : ℕ → ℕ → List HeapTerm
unbound_from n count = map (λ v. Var v) (counted_from n count)
