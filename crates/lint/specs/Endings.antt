-- How a run ends: its status, the text on `out` and the line on `err`.
use Rattle.std.specs.Prelude.{◌≡◌, ◌≢◌, ◌⊎◌, ℕ, List, [], ◌++◌, Option, Some, None, IfSome, Contains, codes, ⊤}
use Rattle.spec_numbers.specs.Texts.{Text}
use Rattle.cq_outside.specs.Counts.{Rose}
use Rattle.cq_outside.specs.Bytes.{Adds, Appends, Begins}
use Rattle.cq_outside.specs.Files.{Files, IsTooLarge}
use Rattle.lint.specs.Causes.{IfBroken}
use Rattle.lint.specs.Pages.{Reports}
use Rattle.lint.specs.declared.pages.Halt.{Halt}
use Rattle.lint.specs.declared.pages.Halt.TheVariants.{Absent, TooLarge, Read, Write, Memory}
use Rattle.lint.specs.declared.running.Ending.{Ending}
use Rattle.lint.specs.declared.running.Ending.TheVariants as ending
use Rattle.lint.specs.declared.running.Status.{Status}
use Rattle.lint.specs.declared.running.Status.TheVariants as status

-- ---- lines

abbrev pub words_line : Text
words_line = codes "clpq-lint: bad command line\n"

abbrev pub absent_line : Text → Text
absent_line name = codes "clpq-lint: no file " ++ name ++ codes "\n"

abbrev pub large_line : Text → Text
large_line name = codes "clpq-lint: too large " ++ name ++ codes "\n"

abbrev pub read_line : Text
read_line = codes "clpq-lint: read failed\n"

abbrev pub write_line : Text
write_line = codes "clpq-lint: write failed\n"

abbrev pub memory_line : Text
memory_line = codes "clpq-lint: out of memory\n"

-- the line of an ending
abbrev pub line_of : Ending → Text
line_of ending.Clean = []
line_of ending.Found = []
line_of ending.BadWords = words_line
line_of (ending.Broken (Absent name)) = absent_line name.now
line_of (ending.Broken (TooLarge name)) = large_line name.now
line_of (ending.Broken Read) = read_line
line_of (ending.Broken Write) = write_line
line_of (ending.Broken Memory) = memory_line

-- ---- statuses

abbrev pub halt_status : Halt → Status
halt_status (Absent name) = status.NoFile
halt_status (TooLarge name) = status.NoFile
halt_status Read = status.ReadFault
halt_status Write = status.WriteFault
halt_status Memory = status.NoMemory

abbrev pub status_of : Ending → Status
status_of ending.Clean = status.Clean
status_of ending.Found = status.Found
status_of ending.BadWords = status.BadWords
status_of (ending.Broken halt) = halt_status halt

abbrev pub number_of : Status → ℕ
number_of status.Clean = 0
number_of status.Found = 1
number_of status.BadWords = 2
number_of status.NoFile = 3
number_of status.ReadFault = 4
number_of status.WriteFault = 5
number_of status.NoMemory = 7

-- ---- endings

-- why the file of this name isn't given
abbrev pub IsMissing : Option Files → Text → Halt → Type 0
IsMissing files name (Absent named) = (named.now ≡ name) × IfSome files (λ there. there name ≡ None)
IsMissing files name (TooLarge named) = (named.now ≡ name) × IfSome files (λ there. IsTooLarge (there name))
IsMissing files name Read = ⊤
IsMissing files name Write = ⊥
IsMissing files name Memory = ⊤

-- one of the files isn't given, or memory was wanting
abbrev pub AreMissing : Option Files → List Text → Halt → Type 0
AreMissing files names Memory = ⊤
AreMissing files names halt = (name : Text) × Contains names name × IsMissing files name halt

-- What was found is written: exactly at the status 0 it is nothing.
abbrev pub IsFound : Ending → Text → Type 0
IsFound ending.Clean text = text ≡ []
IsFound ending.Found text = text ≢ []
IsFound ending.BadWords text = ⊥
IsFound (ending.Broken halt) text = ⊥

-- the report was written whole
pub record IsWhole (files : Option Files) (names : List Text) (e : Ending) (held now : Option (List ℕ)) : Type 0 where
  pub text : Text
  pub reports : Reports files names text
  pub found : IsFound e text
  pub written : Appends held now text

-- a beginning of the report was written, at a write that failed; else nothing was
abbrev pub Breaks : Option Files → List Text → Halt → Option (List ℕ) → Option (List ℕ) → Type 0
Breaks files names Write held now = (text : Text) × Reports files names text × Adds held now (λ part. Begins part text)
Breaks files names halt held now = AreMissing files names halt × (now ≡ held)

-- How the run ends whose words name these files, or no words of the language.
abbrev pub Ends : Option Files → Option (List Text) → Ending → Option (List ℕ) → Option (List ℕ) → Type 0
Ends files (Some names) (ending.Broken halt) held now = Breaks files names halt held now
Ends files (Some names) e held now = IsWhole files names e held now
Ends files None e held now = (e ≡ ending.BadWords) × (now ≡ held)

-- the sink gained the line, or a beginning of it where its count of faults rose
abbrev pub IsTold : Option (List ℕ) → Option (List ℕ) → ℕ → ℕ → Text → Type 0
IsTold held now faults now_faults line = Appends held now line ⊎ (Rose faults now_faults × Adds held now (λ part. Begins part line))

-- A run that ended so had this status, with what `out` gained, and told the line of its ending. Where it broke off, `due` holds of why.
pub record Ended (files : Option Files) (names : Option (List Text)) (s : Status) (held now err_held err_now : Option (List ℕ)) (faults now_faults : ℕ)
    (due : Halt → Type 0) : Type 0 where
  pub how : Ending
  pub status : s ≡ status_of how
  pub ends : Ends files names how held now
  pub cause : IfBroken due how
  pub told : IsTold err_held err_now faults now_faults (line_of how)
