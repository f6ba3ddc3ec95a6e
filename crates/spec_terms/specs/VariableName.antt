-- The variables that a text gives names to.
use Rattle.std.specs.Prelude.{ℕ, List, [], ◌∷◌, ◌++◌, Option, Some, None, unwrap_or, codes, bytes_eq, if◌then◌else◌}
use Rattle.spec_numbers.specs.Texts.{Text}

-- a variable's name, and its number
pub record VariableName : Type 0 where
  pub name : Text
  pub number : ℕ

-- the variables of a text so far: those that have names, by first occurrence, and how many there are with the bare `_`
pub record Variables : Type 0 where
  pub names : List VariableName
  pub count : ℕ

-- the variables before the first token
abbrev pub no_variables : Variables
no_variables = record { names = []; count = 0 }

-- the number that belongs to a name
abbrev pub number_of : List VariableName → Text → Option ℕ
number_of [] name = None
number_of (v ∷ names) name = if bytes_eq name v.name then Some v.number else number_of names name

-- the number of the variable that is written so, if it occurred: a bare `_` never did
abbrev pub known : Variables → Text → Option ℕ
known variables name = if bytes_eq name (codes "_") then None else number_of variables.names name

-- the number of the variable that is written next: the name's, or a new one
abbrev pub next_number : Variables → Text → ℕ
next_number variables name = unwrap_or (known variables name) variables.count

-- the names with a new variable's
abbrev pub with_name : Variables → Text → List VariableName
with_name variables name =
    if bytes_eq name (codes "_") then variables.names else
    variables.names ++ record { name = name; number = variables.count } ∷ []
