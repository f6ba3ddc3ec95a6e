-- Why and where the transcript of files and of the input breaks off, and what that says of counts.
use Rattle.std.specs.Prelude.{◌≡◌, ◌⊎◌, ◌<◌, ◌≤◌, ℕ, List, ◌∷◌, ◌++◌, length, take, true, Option, Some, None, Ok, Err, Result, IfSome, ⊤}
use Rattle.cq_outside.specs.Files.{Files, IsTooLarge}
use Rattle.cq_outside.specs.declared.shelf.TheConstants.{SIZE_LIMIT}
use Rattle.cq_read.specs.Inputs.{Input}
use Rattle.spec_numbers.specs.Texts.{Text}
use Rattle.spec_text.specs.Decided.{Decided}
use Rattle.spec_search.specs.Database.{Database}
use Rattle.spec_transcript.specs.Causes.{Budgets}
use Rattle.spec_transcript.specs.declared.Source.TheVariants as source
use Rattle.spec_transcript.specs.Session.{Session, Opening, Reading, Reader, Marks}
use Rattle.spec_command.specs.Causes.{Counts, LimitPassed, LoadFailed, LoadRefused, NoneFailed, ReadFailed, WriteFailed}
use Rattle.spec_command.specs.Outside.{Outside, given}
use Rattle.cq_session.specs.Progress.{Advanced, Broken}
use Rattle.cq_session.specs.declared.transcript.halt.Halt.{Halt}
use Rattle.cq_session.specs.declared.transcript.halt.Halt.TheVariants.{Absent, TooLarge, TooMuchInput, Read, Write, Memory}

-- ---- files

-- the text of the file of this name is there and whole, and is read from its beginning
abbrev pub IsLoaded : Option Files → Text → Input → Type 0
IsLoaded files name text = IfSome files (λ there. given there name ≡ Some text.bytes) × (text.place ≡ 0) × (text.finished ≡ true)

-- why the file of this name isn't given
abbrev pub IsMissing : Option Files → Text → Halt → Type 0
IsMissing files name (Absent named) = (named.now ≡ name) × IfSome files (λ there. there name ≡ None)
IsMissing files name (TooLarge named) = (named.now ≡ name) × IfSome files (λ there. IsTooLarge (there name))
IsMissing files name Read = ⊤
IsMissing files name Memory = ⊤
IsMissing files name Write = ⊥
IsMissing files name TooMuchInput = ⊥

-- ---- transcripts that break off

-- the file of this name is the next to be consulted, and the transcript up to it was written
pub record ComesTo (b : Budgets) (o : Outside) (from : Session) (name : Text) (held now : Option (List ℕ)) : Type 0 where
  pub database : Database
  pub later : List Text
  pub marks : Marks
  pub advanced : Advanced b o from marks (Opening database (name ∷ later)) held now

-- Of the input these bytes are read, and of all that they decide the transcript was written: behind a clause or an error that they
-- decide stands one more of them.
pub record ReadsAll (b : Budgets) (o : Outside) (from : Session) (bytes : List ℕ) (held now : Option (List ℕ)) : Type 0 where
  pub database : Database
  pub reader : Reader
  pub is_input : reader.source ≡ source.Input
  pub short : (reader.at ≡ 0) ⊎ (reader.at < length bytes)
  pub undecided : Decided database.operators bytes reader.at → ⊥
  pub marks : Marks
  pub advanced : Advanced b o from marks (Reading database reader) held now

-- the same of all bytes that were taken of the input, which are within the limit, with these left
pub record ReadsTaken (b : Budgets) (o : Outside) (from : Session) (left : List ℕ) (held now : Option (List ℕ)) : Type 0 where
  pub taken : List ℕ
  pub split : o.input ≡ taken ++ left
  pub small : length taken ≤ SIZE_LIMIT
  pub all : ReadsAll b o from taken held now

-- the same of those within the limit, where more were taken
pub record PassesLimit (b : Budgets) (o : Outside) (from : Session) (left : List ℕ) (held now : Option (List ℕ)) : Type 0 where
  pub taken : List ℕ
  pub split : o.input ≡ taken ++ left
  pub large : SIZE_LIMIT < length taken
  pub all : ReadsAll b o from (take SIZE_LIMIT taken) held now

-- the transcript breaks off so, with these bytes of the input left
abbrev pub Breaks : Budgets → Outside → Option (List ℕ) → Session → Halt → Option (List ℕ) → Option (List ℕ) → Type 0
Breaks b o left from (Absent name) held now = (o.files name.now ≡ None) × ComesTo b o from name.now held now
Breaks b o left from (TooLarge name) held now = IsTooLarge (o.files name.now) × ComesTo b o from name.now held now
Breaks b o left from TooMuchInput held now = (bytes : List ℕ) × (left ≡ Some bytes) × PassesLimit b o from bytes held now
Breaks b o left from Read held now =
    ((name : Text) × ComesTo b o from name held now) ⊎ ((bytes : List ℕ) × (left ≡ Some bytes) × ReadsTaken b o from bytes held now)
Breaks b o left from Write held now = Broken b o from Write held now
Breaks b o left from Memory held now = Broken b o from Memory held now

-- ---- counts

-- what a halt says of the counts before and after: its cause is counted, and no other
abbrev pub CausedBy : Counts → Counts → Halt → Type 0
CausedBy old new (Absent name) = LoadRefused old new
CausedBy old new (TooLarge name) = LoadRefused old new
CausedBy old new TooMuchInput = LimitPassed old new
CausedBy old new Read = ReadFailed old new ⊎ LoadFailed old new
CausedBy old new Write = WriteFailed old new
CausedBy old new Memory = NoneFailed old new

-- where nothing breaks off, the counts stay
abbrev pub CountedBy : {T : Type 0} → Counts → Counts → Result T Halt → Type 0
CountedBy old new (Ok value) = new ≡ old
CountedBy old new (Err halt) = CausedBy old new halt

-- where nothing breaks off, no fault is counted
abbrev pub FaultsCountedBy : {T : Type 0} → Counts → Counts → Result T Halt → Type 0
FaultsCountedBy old new (Ok value) = NoneFailed old new
FaultsCountedBy old new (Err halt) = CausedBy old new halt
