-- How far the transcript of a text came.
use Rattle.std.specs.Prelude.{◌≡◌, ◌⊎◌, ◌<◌, ℕ, List, [], ◌++◌, length, true, false, Option}
use Rattle.cq_read.specs.Inputs.{Input}
use Rattle.spec_text.specs.Decided.{Decided}
use Rattle.spec_text.specs.Readings.{Reads, Ended}
use Rattle.spec_transcript.specs.Causes.{Budgets}
use Rattle.spec_transcript.specs.Session.{Reading, Marks, unmarked, Reader}
use Rattle.spec_command.specs.Outside.{Outside}
use Rattle.cq_session.specs.Sentences.{Program}
use Rattle.cq_session.specs.Progress.{Advanced, marks_of}
use Rattle.spec_transcript.specs.declared.Source.{Source}
use Rattle.spec_transcript.specs.declared.Source.TheVariants as source
use Rattle.cq_session.specs.declared.transcript.reading.Pause.{Pause}
use Rattle.cq_session.specs.declared.transcript.reading.Pause.TheVariants.{Needs, End}
use Rattle.cq_session.specs.declared.transcript.reading.Turn.{Turn}
use Rattle.cq_session.specs.declared.transcript.reading.Turn.TheVariants.{Goes, Pauses}

-- the reader stands where the input does: the bytes are the beginning of its text, and the whole of it once no more come
pub record IsAt (r : Reader) (s : Source) (input : Input) (p : Program) : Type 0 where
  pub source : r.source ≡ s
  pub more : List ℕ
  pub bytes : r.bytes ≡ input.bytes ++ more
  pub at : r.at ≡ input.place
  pub later : r.later ≡ p.later
  pub whole : input.finished ≡ true → more ≡ []

-- The transcript of a text was written up to where its reader stands now. No goal of the input waits.
pub record StandsAt (b : Budgets) (o : Outside) (r : Reader) (s : Source) (marks : Marks) (p q : Program) (input : Input) (held now : Option (List ℕ)) : Type 0 where
  pub reader : Reader
  pub bytes : reader.bytes ≡ r.bytes
  pub files : reader.files ≡ r.files
  pub is_at : IsAt reader s input q
  pub advanced : Advanced b o (Reading p.database r) marks (Reading q.database reader) held now
  pub none_waits : s ≡ source.Input → q.later ≡ p.later

-- reading goes on at the text's beginning, or before the end of the bytes that are there
abbrev pub IsShort : Input → Type 0
IsShort input = (input.place ≡ 0) ⊎ (input.place < length input.bytes)

-- it does where more bytes may come
abbrev pub StopsShort : Input → Type 0
StopsShort input = input.finished ≡ false → IsShort input

-- the bytes don't decide what stands at the place, or nothing more does
abbrev pub IsPause : Pause → Program → Input → Type 0
IsPause Needs q input = (input.finished ≡ false) × (Decided q.database.operators input.bytes input.place → ⊥)
IsPause End q input = (input.finished ≡ true) × Reads q.database.operators input.bytes input.place Ended

-- reading moved on, or pauses
abbrev pub IsTurn : Turn → Program → Input → Input → Type 0
IsTurn (Goes lines) q old new = old.place < new.place
IsTurn (Pauses pause) q old new = IsPause pause q new

abbrev pub marks_in : Turn → Marks
marks_in (Goes lines) = marks_of lines
marks_in (Pauses pause) = unmarked
