-- What a status says of the words and of the counts, and when a run is whole.
use Rattle.std.specs.Prelude.{◌≡◌, ◌⊎◌, ◌≤◌, ℕ, List, length, Option, Some, None, is_some, true, ⊤}
use Rattle.std.specs.List.{AllByRecursion}
use Rattle.cq_outside.specs.Counts.{Rose, RoseBeyond}
use Rattle.cq_outside.specs.declared.shelf.TheConstants.{SIZE_LIMIT}
use Rattle.cq_words.specs.Asked.{Asked, Task, ToRun, ToGen}
use Rattle.spec_numbers.specs.Texts.{Text}
use Rattle.spec_transcript.specs.Session.{Session, Marks, stop_line, Step}
use Rattle.spec_command.specs.declared.endings.status.Status.{Status}
use Rattle.spec_command.specs.declared.endings.status.Status.TheVariants.{Done, Faulty, BadWords, NoFile, ReadFault, WriteFault, Stopped, NoMemory}
use Rattle.spec_command.specs.Generated.{GenEnds, IsGenClear}
use Rattle.spec_command.specs.Outside.{Outside, budgets_of, given, Reaches}
use Rattle.spec_command.specs.Endings.{Ends}

-- the counts of the shelf's faults and refused files, of the source's faults and bytes taken, and of `out`'s faults
pub record Counts : Type 0 where
  pub shelf_faults : ℕ
  pub shelf_refused : ℕ
  pub source_faults : ℕ
  pub source_taken : ℕ
  pub out_faults : ℕ

-- these five counts, in that order
abbrev pub counted : ℕ → ℕ → ℕ → ℕ → ℕ → Counts
counted absent refused failed taken unwritten =
    record { shelf_faults = absent; shelf_refused = refused; source_faults = failed; source_taken = taken; out_faults = unwritten }

-- the words are in the language
abbrev pub TakesWords : Option Task → Type 0
TakesWords asked = is_some asked ≡ true

-- no fault is counted: loads that failed and that were refused, reads that failed and writes that failed are as many as before
pub record NoneFailed (old new : Counts) : Type 0 where
  pub loads : new.shelf_faults ≡ old.shelf_faults
  pub refusals : new.shelf_refused ≡ old.shelf_refused
  pub reads : new.source_faults ≡ old.source_faults
  pub writes : new.out_faults ≡ old.out_faults

-- a file is refused, and no load, read or write failed
pub record LoadRefused (old new : Counts) : Type 0 where
  pub refusals : Rose old.shelf_refused new.shelf_refused
  pub loads : new.shelf_faults ≡ old.shelf_faults
  pub reads : new.source_faults ≡ old.source_faults
  pub writes : new.out_faults ≡ old.out_faults

-- more bytes are taken of the source than the limit lets in, and no fault is counted
pub record LimitPassed (old new : Counts) : Type 0 where
  pub taken : RoseBeyond SIZE_LIMIT old.source_taken new.source_taken
  pub none_failed : NoneFailed old new

-- a load failed, and no other fault is counted
pub record LoadFailed (old new : Counts) : Type 0 where
  pub loads : Rose old.shelf_faults new.shelf_faults
  pub refusals : new.shelf_refused ≡ old.shelf_refused
  pub reads : new.source_faults ≡ old.source_faults
  pub writes : new.out_faults ≡ old.out_faults

-- a read failed, and no other fault is counted
pub record ReadFailed (old new : Counts) : Type 0 where
  pub reads : Rose old.source_faults new.source_faults
  pub loads : new.shelf_faults ≡ old.shelf_faults
  pub refusals : new.shelf_refused ≡ old.shelf_refused
  pub writes : new.out_faults ≡ old.out_faults

-- a write failed, and no other fault is counted
pub record WriteFailed (old new : Counts) : Type 0 where
  pub writes : Rose old.out_faults new.out_faults
  pub loads : new.shelf_faults ≡ old.shelf_faults
  pub refusals : new.shelf_refused ≡ old.shelf_refused
  pub reads : new.source_faults ≡ old.source_faults

-- What each status says of the words and of the counts before and after the run: one cause is counted, and no other. Words that are
-- not in the language change no count, and where memory was wanting no fault is counted.
abbrev pub Caused : Status → Option Task → Counts → Counts → Type 0
Caused Done asked old new = TakesWords asked × NoneFailed old new
Caused Faulty asked old new = TakesWords asked × NoneFailed old new
Caused BadWords asked old new = (asked ≡ None) × (new ≡ old)
Caused NoFile asked old new = TakesWords asked × (LoadRefused old new ⊎ LimitPassed old new)
Caused ReadFault asked old new = TakesWords asked × (ReadFailed old new ⊎ LoadFailed old new)
Caused WriteFault asked old new = TakesWords asked × WriteFailed old new
Caused Stopped asked old new = TakesWords asked × NoneFailed old new
Caused NoMemory asked old new = NoneFailed old new

-- ---- completeness

-- the file of this name is there and within size
abbrev pub IsGiven : Outside → Text → Type 0
IsGiven o name = is_some (given o.files name) ≡ true

-- Nothing stands in the way: files and input are there and within size, no count of faults rose, and no stop is due in the
-- derivation.
pub record IsClear (o : Outside) (a : Asked) (old new : Counts) : Type 0 where
  pub files : AllByRecursion (IsGiven o) a.files
  pub size : length o.input ≤ SIZE_LIMIT
  pub source : Rose old.source_faults new.source_faults → ⊥
  pub shelf : Rose old.shelf_faults new.shelf_faults → ⊥
  pub out : Rose old.out_faults new.out_faults → ⊥
  pub no_stop : (text line : Text) (marks : Marks) (here next : Session) → Reaches o a text marks here
      → Step (budgets_of a) (given o.files) o.input here line stop_line next → ⊥

-- then the whole transcript is written, or memory was wanting
abbrev pub IsWhole : Status → Type 0
IsWhole Done = ⊤
IsWhole Faulty = ⊤
IsWhole BadWords = ⊥
IsWhole NoFile = ⊥
IsWhole ReadFault = ⊥
IsWhole WriteFault = ⊥
IsWhole Stopped = ⊥
IsWhole NoMemory = ⊤

-- the law that completeness follows from how the run ended and what its status says of the counts
abbrev pub Completeness : Type 0
Completeness = (o : Outside) (left : List ℕ) (a : Asked) (status : Status) (text line : Text) (old new : Counts)
    → Ends o left (Some (ToRun a)) status text line → Caused status (Some (ToRun a)) old new → IsClear o a old new → IsWhole status

-- the same of `gen`
abbrev pub GenCompleteness : Type 0
GenCompleteness = (n : ℕ) (status : Status) (text line : Text) (old new : Counts) → GenEnds n status text line → Caused status (Some (ToGen n)) old new
    → IsGenClear n old.out_faults new.out_faults → IsWhole status
