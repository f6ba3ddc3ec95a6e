-- What a term shows at its head.
use Rattle.std.specs.Prelude.{ℕ, ◌≡◌, ◌<◌, List, [], length, map}
use Rattle.spec_terms.specs.Term.{Var, Number, Name, Compound, count, list_of}
use Rattle.spec_terms.specs.Variables.{counted_from}
use Rattle.cq_term.specs.Meaning.{HeapTerm, at}
use Rattle.cq_term.specs.declared.view.View.{View}
use Rattle.cq_term.specs.declared.view.View.TheVariants as view

abbrev pub view_of : HeapTerm → View
view_of (Var v) = view.Var (record { 0 = v })
view_of (Number q) = view.Number q
view_of (Name a) = view.Name a
view_of (Compound f ts) = view.Compound f (count ts)

-- the arguments, of which only a compound has any
abbrev pub arguments : HeapTerm → List HeapTerm
arguments (Var v) = []
arguments (Number q) = []
arguments (Name a) = []
arguments (Compound f ts) = list_of ts

-- the variable is there and is its own image
abbrev pub IsUnbound : List HeapTerm → ℕ → Type 0
IsUnbound images v = (v < length images) × (at images v ≡ Var v)

-- so many variables, numbered from n on
abbrev pub variables_from : ℕ → ℕ → List HeapTerm
variables_from n count = map (λ v. Var v) (counted_from n count)
