-- Names that are one unquoted name token by their looks.
use Rattle.std.specs.Prelude.{◌≡◌, ℕ, Bool, true, false, ◌&&◌, ◌||◌, ◌==◌, List, [], ◌∷◌, length, ⊤}
use Rattle.std.specs.Char.{is_ascii_alphanumeric}
use Rattle.std.specs.Str.{IsAscii}
use Rattle.spec_numbers.specs.Texts.{Text}
use Rattle.spec_syntax.specs.Characters.{passes, first_char, continues_name, begins_with}
use Rattle.spec_syntax.specs.Writing.{needs_quotes}
use Rattle.spec_text.specs.Texts.{name_text}
use Rattle.cq_term.specs.Texts.{text_of}
use Rattle.cq_write.specs.Work.{Setting}
use Rattle.cq_write.specs.declared.looks.Looks.{Looks}
use Rattle.cq_write.specs.declared.looks.Looks.TheVariants as looks

-- an ASCII letter, a digit or `_`
abbrev pub continues_word : ℕ → Bool
continues_word b = is_ascii_alphanumeric b || (b == 95)

-- symbol characters, the first of them apart, are a full stop alone or begin a comment
abbrev pub is_alone : ℕ → List ℕ → Bool
is_alone b bs = ((b == 46) && (length bs == 0)) || ((b == 47) && begins_with 42 bs)

-- an ASCII name that needs no quotes, and whether it begins as one of letters goes on
pub record IsBare (f : Text) (letters : Bool) : Type 0 where
  pub bare : needs_quotes f ≡ false
  pub ascii : IsAscii f
  pub begins : passes continues_name (first_char f) ≡ letters

abbrev pub HasLooks : Text → Looks → Type 0
HasLooks f looks.Letters = IsBare f true
HasLooks f looks.Symbols = IsBare f false
HasLooks f looks.Other = ⊤

-- the text of a name, which is ASCII and stands as it is
pub record IsPlainText (s : Setting) (a : ℕ) (text : Text) : Type 0 where
  pub same : name_text s.style (text_of s.texts a) ≡ text
  pub ascii : IsAscii text
