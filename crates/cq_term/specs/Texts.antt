-- The texts of the names: the place of a text in the list is its number.
use Rattle.std.specs.Prelude.{◌≡◌, ◌↔◌, ℕ, Option, List, [], ◌∷◌, ◌++◌, Some, slice_get, slice_index_or, bytes_eq, if◌then◌else◌}
use Rattle.std.specs.List.{list_any}
use Rattle.spec_numbers.specs.Texts.{Text}

-- the text of a number that was given
abbrev pub text_of : List Text → ℕ → Text
text_of texts number = slice_index_or texts number []

-- no text has two numbers
abbrev pub AreDifferent : List Text → Type 0
AreDifferent texts = (i j : ℕ) (text : Text) → slice_get texts i ≡ Some text → slice_get texts j ≡ Some text → i ≡ j

-- each number keeps its text
abbrev pub KeepsTexts : List Text → List Text → Type 0
KeepsTexts old new = (i : ℕ) (text : Text) → slice_get old i ≡ Some text → slice_get new i ≡ Some text

-- the texts with this one among them: one that is new goes last
abbrev pub with_text : List Text → Text → List Text
with_text texts text = if list_any (bytes_eq text) texts then texts else texts ++ text ∷ []

-- the search finds each text at its number, and nothing else
abbrev pub IsNumbering : (Text → Option ℕ) → List Text → Type 0
IsNumbering find texts = (text : Text) (i : ℕ) → (find text ≡ Some i) ↔ (slice_get texts i ≡ Some text)
