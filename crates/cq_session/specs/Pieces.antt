-- What a piece of the input brings, and how the transcript of the input ends.
use Rattle.std.specs.Prelude.{◌≡◌, ◌<◌, ◌≤◌, ◌+◌, ℕ, List, [], ◌++◌, length, take, true, Option, Ok, Err, Result, IfSome, ⊤}
use Rattle.std.specs.Io.KnownBytes.{IsAtEnd, Keeps}
use Rattle.cq_outside.specs.Counts.{Rose}
use Rattle.cq_outside.specs.Whole.{TakesBytes}
use Rattle.cq_outside.specs.declared.shelf.TheConstants.{SIZE_LIMIT}
use Rattle.cq_read.specs.Inputs.{Input}
use Rattle.spec_search.specs.Database.{Database}
use Rattle.spec_transcript.specs.Causes.{Budgets}
use Rattle.spec_transcript.specs.Session.{Session, Marks, Over}
use Rattle.spec_command.specs.Outside.{Outside}
use Rattle.cq_session.specs.Progress.{Advanced}
use Rattle.cq_session.specs.declared.transcript.halt.Halt.{Halt}
use Rattle.cq_session.specs.declared.transcript.halt.Halt.TheVariants.{Absent, TooLarge, TooMuchInput, Read, Write, Memory}
use Rattle.cq_session.specs.declared.transcript.input.Piece.{Piece}
use Rattle.cq_session.specs.declared.transcript.input.Piece.TheVariants.{Bytes, End, TooMuch}

-- what a source has left, before and after, and how many bytes were taken of it
pub record Taking : Type 0 where
  pub left : Option (List ℕ)
  pub now : Option (List ℕ)
  pub taken : ℕ
  pub now_taken : ℕ

abbrev pub taking : Option (List ℕ) → Option (List ℕ) → ℕ → ℕ → Taking
taking left now taken now_taken = record { left = left; now = now; taken = taken; now_taken = now_taken }

-- these bytes, and no others, were taken
abbrev pub Takes : Taking → List ℕ → Type 0
Takes t bytes = TakesBytes t.left t.now t.taken t.now_taken bytes

-- the text has these bytes in addition
abbrev pub with_bytes : Input → List ℕ → Input
with_bytes text bytes = record text { bytes = text.bytes ++ bytes }

-- where there was room for so many bytes, this was read behind a text
abbrev pub IsPiece : ℕ → Taking → Input → Input → Piece → Type 0
IsPiece room t old new (Bytes more) = (bytes : List ℕ) × Takes t bytes × (0 < length bytes) × (length bytes + more ≡ room) × (new ≡ with_bytes old bytes)
IsPiece room t old new End = Takes t [] × IsAtEnd t.now × (new ≡ record old { finished = true })
IsPiece room t old new TooMuch = (bytes : List ℕ) × Takes t bytes × (room < length bytes) × (new ≡ with_bytes old (take room bytes))

-- a read that failed took nothing
abbrev pub IsUnread : Option (List ℕ) → Option (List ℕ) → Halt → Type 0
IsUnread left now Read = Keeps left now
IsUnread left now halt = ⊤

-- a read failed only where the count of faults rose, which else stays; else memory was wanting
abbrev pub CountsReads : {T : Type 0} → ℕ → ℕ → Result T Halt → Type 0
CountsReads before now (Ok value) = now ≡ before
CountsReads before now (Err Read) = Rose before now
CountsReads before now (Err Memory) = now ≡ before
CountsReads before now (Err Write) = ⊥
CountsReads before now (Err (Absent name)) = ⊥
CountsReads before now (Err (TooLarge name)) = ⊥
CountsReads before now (Err TooMuchInput) = ⊥

-- the transcript was written to its end, and the whole input was read
pub record HasReadInput (b : Budgets) (o : Outside) (left : Option (List ℕ)) (from : Session) (marks : Marks) (held now : Option (List ℕ)) : Type 0 where
  pub database : Database
  pub advanced : Advanced b o from marks (Over database) held now
  pub size : length o.input ≤ SIZE_LIMIT
  pub read : IfSome left (λ bytes. bytes ≡ [])
