-- The command's language: names of files, at least one.
use Rattle.std.specs.Prelude.{List, [], ◌∷◌, Bool, false, ◌==◌, Option, Some, None, if◌then◌else◌}
use Rattle.std.specs.List.{list_any}
use Rattle.spec_numbers.specs.Texts.{Text}

-- the word begins with `-`
abbrev pub is_option : Text → Bool
is_option [] = false
is_option (b ∷ bs) = b == 45

-- words behind the program's name that name files
abbrev pub named_in : List Text → Option (List Text)
named_in [] = None
named_in (name ∷ names) = if list_any is_option (name ∷ names) then None else Some (name ∷ names)

-- the files that the words name, the program's name first; None where they are not in the language
abbrev pub named_by : List Text → Option (List Text)
named_by [] = None
named_by (program ∷ words) = named_in words
