-- The names of variables.
use Rattle.std.specs.Prelude.{ℕ, ◌==◌, List, [], ◌∷◌, if◌then◌else◌}
use Rattle.spec_numbers.specs.Texts.{Text}
use Rattle.spec_terms.specs.VariableName.{VariableName}

-- the first name of a variable, which is empty where it has none
abbrev pub name_among : List VariableName → ℕ → Text
name_among [] v = []
name_among (n ∷ names) v = if n.number == v then n.name else name_among names v
