-- How a term is kept.
use Rattle.std.specs.Prelude.{map, ⊤}
use Rattle.spec_terms.specs.Term.{Number, Name}
use Rattle.cq_resolve.specs.Marks.{shown}
use Rattle.cq_resolve.specs.Pattern.{IsPattern, term_of}
use Rattle.cq_resolve.specs.StoredValue.{StoredValue}
use Rattle.cq_resolve.specs.declared.stored.term.Kept.{Kept}
use Rattle.cq_resolve.specs.declared.stored.term.Kept.TheVariants as kept

-- a number and a name have no variables
abbrev pub stored_of : Kept → StoredValue
stored_of (kept.Number q) = record { term = Number q; variables = 0 }
stored_of (kept.Name a) = record { term = Name a; variables = 0 }
stored_of (kept.Parts pattern count) = record { term = term_of (map shown pattern.items); variables = count }

abbrev pub IsStored : Kept → Type 0
IsStored (kept.Number q) = ⊤
IsStored (kept.Name a) = ⊤
IsStored (kept.Parts pattern count) = IsPattern count (map shown pattern.items)
