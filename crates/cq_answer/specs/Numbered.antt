-- Names for variables that have none.
use Rattle.std.specs.Prelude.{◌≡◌, ℕ, suc, ◌==◌, Bool, List, [], ◌∷◌, ◌++◌, length}
use Rattle.std.specs.List.{list_any}
use Rattle.spec_terms.specs.VariableName.{VariableName}
use Rattle.spec_text.specs.Written.{counted_name}

-- the variables with the names `_1`, `_2` and so on, where so many were named before
abbrev pub counted : ℕ → List ℕ → List VariableName
counted k [] = []
counted k (v ∷ vs) = record { name = counted_name k; number = v } ∷ counted (suc k) vs

-- they are the first names, so many, and then counted ones for these variables
abbrev pub AreCounted : List VariableName → List ℕ → ℕ → List VariableName → Type 0
AreCounted first us from names = (from ≡ length first) × (names ≡ first ++ counted 0 us)

-- the variable is among these
abbrev pub has_variable : List ℕ → ℕ → Bool
has_variable vs v = list_any (λ w. w == v) vs
