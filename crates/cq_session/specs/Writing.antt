-- What was written of the line of `gen`.
use Rattle.std.specs.Prelude.{◌≡◌, ℕ, List, Bool, false, Option}
use Rattle.cq_outside.specs.Bytes.{Adds, Appends, Begins}
use Rattle.spec_numbers.specs.Texts.{Text}
use Rattle.spec_command.specs.Outcome.{GenWrites}
use Rattle.cq_session.specs.declared.transcript.halt.Halt.{Halt}
use Rattle.cq_session.specs.declared.transcript.halt.Halt.TheVariants.{Absent, TooLarge, TooMuchInput, Read, Write, Memory}
use Rattle.cq_session.specs.declared.transcript.halt.Lines.{Lines}

-- the whole line, which is no error line
pub record HasWritten (n : ℕ) (held now : Option (List ℕ)) (lines : Lines) : Type 0 where
  pub line : Text
  pub writes : GenWrites n line lines.stopped
  pub no_error : lines.faulty ≡ false
  pub written : Appends held now line

-- a beginning of the line, where a write failed
pub record HasBegunLine (n : ℕ) (held now : Option (List ℕ)) : Type 0 where
  pub line : Text
  pub stops : Bool
  pub writes : GenWrites n line stops
  pub written : Adds held now (λ part. Begins part line)

-- a write failed, or memory was wanting before anything was written
abbrev pub IsBroken : ℕ → Option (List ℕ) → Option (List ℕ) → Halt → Type 0
IsBroken n held now Write = HasBegunLine n held now
IsBroken n held now Memory = now ≡ held
IsBroken n held now (Absent name) = ⊥
IsBroken n held now (TooLarge name) = ⊥
IsBroken n held now TooMuchInput = ⊥
IsBroken n held now Read = ⊥
