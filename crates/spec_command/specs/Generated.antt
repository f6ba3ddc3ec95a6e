-- How a run of `gen` ends: it reads nothing, and one line shows its status and what was written.
use Rattle.std.specs.Prelude.{ℕ, [], Bool, true, false}
use Rattle.cq_outside.specs.Bytes.{Begins}
use Rattle.cq_outside.specs.Counts.{Rose}
use Rattle.spec_numbers.specs.Texts.{Text}
use Rattle.spec_command.specs.Outcome.{GenWrites}
use Rattle.spec_command.specs.declared.endings.status.Status.{Status}
use Rattle.spec_command.specs.declared.endings.status.Status.TheVariants.{Done, WriteFault, Stopped, NoMemory}
use Rattle.spec_command.specs.Lines.{write_line, memory_line}

-- for this number, its status, what it wrote, and its line on `err`
pub data GenEnds (n : ℕ) : Status → Text → Text → Type 0 where
  done : {line : Text} → GenWrites n line false → GenEnds n Done line []
  stopped : {line : Text} → GenWrites n line true → GenEnds n Stopped line []
  write_fault : {line part : Text} (stops : Bool) → GenWrites n line stops → Begins part line → GenEnds n WriteFault part write_line
  no_memory : GenEnds n NoMemory [] memory_line

-- no stop is due in the search of its query, and no write failed
pub record IsGenClear (n old_faults new_faults : ℕ) : Type 0 where
  pub out : Rose old_faults new_faults → ⊥
  pub no_stop : (line : Text) → GenWrites n line true → ⊥
