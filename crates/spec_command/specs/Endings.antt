-- How a run ends: its status, the text on `out` and the line on `err`.
use Rattle.std.specs.Prelude.{◌≡◌, ◌⊎◌, ◌<◌, ◌≤◌, ℕ, List, [], ◌++◌, length, take, Bool, true, false, Option, Some, None, IfSome}
use Rattle.cq_outside.specs.Counts.{Rose}
use Rattle.cq_outside.specs.Bytes.{Adds, Appends, Begins}
use Rattle.cq_outside.specs.Files.{IsTooLarge}
use Rattle.cq_outside.specs.declared.shelf.TheConstants.{SIZE_LIMIT}
use Rattle.cq_words.specs.Asked.{Asked, Task, ToRun, ToGen}
use Rattle.spec_numbers.specs.Texts.{Text}
use Rattle.spec_command.specs.declared.endings.status.Status.{Status}
use Rattle.spec_command.specs.declared.endings.status.Status.TheVariants.{Done, Faulty, BadWords, NoFile, ReadFault, WriteFault, Stopped, NoMemory}
use Rattle.spec_command.specs.Generated.{GenEnds}
pub use Rattle.spec_command.specs.Lines.{words_line, absent_line, large_line, input_line, read_line, write_line, memory_line}
use Rattle.spec_command.specs.Outside.{Outside, Transcribes, HasWritten, ComesToFile, HasReadAll}

-- the exit status of the program
abbrev pub number_of : Status → ℕ
number_of Done = 0
number_of Faulty = 1
number_of BadWords = 2
number_of NoFile = 3
number_of ReadFault = 4
number_of WriteFault = 5
number_of Stopped = 6
number_of NoMemory = 7

-- ---- lines

-- the line of a status, whatever is told
abbrev pub IsLine : Status → Text → Type 0
IsLine Done line = line ≡ []
IsLine Faulty line = line ≡ []
IsLine BadWords line = line ≡ words_line
IsLine NoFile line = ((name : Text) × (line ≡ absent_line name)) ⊎ (((name : Text) × (line ≡ large_line name)) ⊎ (line ≡ input_line))
IsLine ReadFault line = line ≡ read_line
IsLine WriteFault line = line ≡ write_line
IsLine Stopped line = line ≡ []
IsLine NoMemory line = line ≡ memory_line

-- ---- endings

-- How a run ends, for what its words ask for, with these bytes of the input left: its status, what it wrote, and its line. One
-- transcript shows all three.
pub data Ends (o : Outside) (left : List ℕ) : Option Task → Status → Text → Text → Type 0 where
  done : {a : Asked} {text : Text} → length o.input ≤ SIZE_LIMIT → left ≡ [] → Transcribes o a text (record { faulty = false; stopped = false })
      → Ends o left (Some (ToRun a)) Done text []
  faulty : {a : Asked} {text : Text} → length o.input ≤ SIZE_LIMIT → left ≡ [] → Transcribes o a text (record { faulty = true; stopped = false })
      → Ends o left (Some (ToRun a)) Faulty text []
  stopped : {a : Asked} {text : Text} (errors : Bool) → length o.input ≤ SIZE_LIMIT → left ≡ []
      → Transcribes o a text (record { faulty = errors; stopped = true }) → Ends o left (Some (ToRun a)) Stopped text []
  bad_words : Ends o left None BadWords [] words_line
  absent_file : {a : Asked} {name text : Text} → o.files name ≡ None → ComesToFile o a name text → Ends o left (Some (ToRun a)) NoFile text (absent_line name)
  large_file : {a : Asked} {name text : Text} → IsTooLarge (o.files name) → ComesToFile o a name text
      → Ends o left (Some (ToRun a)) NoFile text (large_line name)
  -- of all that the bytes within the limit decide the transcript is written
  large_input : {a : Asked} {text : Text} (taken : List ℕ) → o.input ≡ taken ++ left → SIZE_LIMIT < length taken
      → HasReadAll o a (take SIZE_LIMIT taken) text → Ends o left (Some (ToRun a)) NoFile text input_line
  file_fault : {a : Asked} {name text : Text} → ComesToFile o a name text → Ends o left (Some (ToRun a)) ReadFault text read_line
  -- of all that the bytes decide that were taken the transcript is written, and they are within the limit
  input_fault : {a : Asked} {text : Text} (taken : List ℕ) → o.input ≡ taken ++ left → length taken ≤ SIZE_LIMIT
      → HasReadAll o a taken text → Ends o left (Some (ToRun a)) ReadFault text read_line
  write_fault : {a : Asked} {text : Text} → HasWritten o a text → Ends o left (Some (ToRun a)) WriteFault text write_line
  no_memory : {a : Asked} {text : Text} → HasWritten o a text → Ends o left (Some (ToRun a)) NoMemory text memory_line
  no_memory_for_words : Ends o left None NoMemory [] memory_line
  generates : {n : ℕ} {status : Status} {text line : Text} → GenEnds n status text line → Ends o left (Some (ToGen n)) status text line

-- what `out` gained at this status: after a failed write it may tell no more
abbrev pub Gains : Status → Option (List ℕ) → Option (List ℕ) → Text → Type 0
Gains WriteFault held now text = Adds held now (λ part. part ≡ text)
Gains NoMemory held now text = Appends held now text
Gains Done held now text = Appends held now text
Gains Faulty held now text = Appends held now text
Gains BadWords held now text = Appends held now text
Gains NoFile held now text = Appends held now text
Gains ReadFault held now text = Appends held now text
Gains Stopped held now text = Appends held now text

-- what an object tells before a run and after it, and its count of faults
pub record Sinks : Type 0 where
  pub held : Option (List ℕ)
  pub now : Option (List ℕ)
  pub faults : ℕ
  pub now_faults : ℕ

-- what a sink holds and its count of faults, before and now
abbrev pub sinks : Option (List ℕ) → Option (List ℕ) → ℕ → ℕ → Sinks
sinks held now faults now_faults = record { held = held; now = now; faults = faults; now_faults = now_faults }

-- the sink gained the line, or a beginning of it where its count of faults rose
abbrev pub IsTold : Sinks → Text → Type 0
IsTold err line = Appends err.held err.now line ⊎ (Rose err.faults err.now_faults × Adds err.held err.now (λ part. Begins part line))

-- a line of the status was told
pub record Tells (status : Status) (err : Sinks) : Type 0 where
  pub line : Text
  pub is_line : IsLine status line
  pub told : IsTold err line

-- A run ended so, with these bytes of the input left, where the source tells them. What it wrote is what `out` gained, and the line of
-- its cause is told.
pub record Ended (o : Outside) (left : Option (List ℕ)) (asked : Option Task) (status : Status) (held now : Option (List ℕ)) (err : Sinks) : Type 0 where
  pub text : Text
  pub line : Text
  pub rest : List ℕ
  pub is_left : IfSome left (λ bytes. rest ≡ bytes)
  pub ends : Ends o rest asked status text line
  pub written : Gains status held now text
  pub told : IsTold err line

-- a run of `gen` ended so: what it wrote is what `out` gained, and the line of its cause is told
pub record GenEnded (n : ℕ) (status : Status) (held now : Option (List ℕ)) (err : Sinks) : Type 0 where
  pub text : Text
  pub line : Text
  pub ends : GenEnds n status text line
  pub written : Gains status held now text
  pub told : IsTold err line
