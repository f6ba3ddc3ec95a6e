-- How far a transcript came: the steps that were taken, and what was appended to what `out` holds.
use Rattle.std.specs.Prelude.{◌≡◌, ℕ, List, ◌++◌, Option, Ok, Err, Result}
use Rattle.cq_outside.specs.Counts.{Rose}
use Rattle.cq_outside.specs.Bytes.{Adds, Appends}
use Rattle.spec_numbers.specs.Texts.{Text}
use Rattle.spec_transcript.specs.Causes.{Budgets}
use Rattle.spec_transcript.specs.Session.{Session, Marks, Runs}
use Rattle.spec_command.specs.Outside.{Outside, given}
use Rattle.cq_session.specs.declared.transcript.halt.Halt.{Halt}
use Rattle.cq_session.specs.declared.transcript.halt.Halt.TheVariants.{Absent, TooLarge, TooMuchInput, Read, Write, Memory}
use Rattle.cq_session.specs.declared.transcript.halt.Lines.{Lines}

abbrev pub marks_of : Lines → Marks
marks_of lines = record { faulty = lines.faulty; stopped = lines.stopped }

-- some steps, with all that they write
abbrev pub RunsIn : Budgets → Outside → Session → Text → Marks → Session → Type 0
RunsIn b o from text marks to = Runs b (given o.files) o.input from text marks to

-- the steps from one session to another wrote what was appended
pub record Advanced (b : Budgets) (o : Outside) (from : Session) (marks : Marks) (to : Session) (held now : Option (List ℕ)) : Type 0 where
  pub text : Text
  pub runs : RunsIn b o from text marks to
  pub written : Appends held now text

-- a text is the beginning of what some steps write
pub record HasBegun (b : Budgets) (o : Outside) (from : Session) (text : Text) : Type 0 where
  pub whole : Text
  pub more : Text
  pub marks : Marks
  pub here : Session
  pub runs : RunsIn b o from whole marks here
  pub begins : whole ≡ text ++ more

-- What was appended is the beginning of what some steps write: a write failed, after which `out` may tell no more, or memory was
-- wanting.
abbrev pub Broken : Budgets → Outside → Session → Halt → Option (List ℕ) → Option (List ℕ) → Type 0
Broken b o from Write held now = (text : Text) × HasBegun b o from text × Adds held now (λ part. part ≡ text)
Broken b o from Memory held now = (text : Text) × HasBegun b o from text × Appends held now text
Broken b o from (Absent name) held now = ⊥
Broken b o from (TooLarge name) held now = ⊥
Broken b o from TooMuchInput held now = ⊥
Broken b o from Read held now = ⊥

-- a write failed only where the count of faults rose, which else stays; else memory was wanting
abbrev pub CountsWrites : {T : Type 0} → ℕ → ℕ → Result T Halt → Type 0
CountsWrites before now (Ok value) = now ≡ before
CountsWrites before now (Err Write) = Rose before now
CountsWrites before now (Err Memory) = now ≡ before
CountsWrites before now (Err (Absent name)) = ⊥
CountsWrites before now (Err (TooLarge name)) = ⊥
CountsWrites before now (Err TooMuchInput) = ⊥
CountsWrites before now (Err Read) = ⊥
