-- The lines of an answer, whatever they say.
use Rattle.std.specs.Prelude.{List, [], ◌∷◌, ◌++◌, codes, Bool, false, ◌==◌}
use Rattle.spec_numbers.specs.Texts.{Text}

-- the text begins with `_`
abbrev pub is_hidden : Text → Bool
is_hidden [] = false
is_hidden (b ∷ bs) = b == 95

-- an answer without a line writes `true`
abbrev pub or_true : List Text → List Text
or_true [] = codes "true" ∷ []
or_true (l ∷ ls) = l ∷ ls

-- each line with its line feed
abbrev pub lines_text : List Text → Text
lines_text [] = []
lines_text (l ∷ ls) = l ++ codes "\n" ++ lines_text ls
