-- The names of variables as the entries of a map.
use Rattle.std.specs.Prelude.{ℕ, List, map, String, string_bytes}
use Rattle.spec_terms.specs.VariableName.{VariableName}

-- the entries of a map from names to numbers of variables
abbrev pub names_of : {A : Type 0} → List (String A × ℕ) → List VariableName
names_of entries = map (λ e. record { name = string_bytes e.0; number = e.1 }) entries
