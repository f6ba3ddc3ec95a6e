-- How a transcript of files and of the input ends, whole or broken off.
use Rattle.std.specs.Prelude.{◌≡◌, ◌≤◌, ℕ, List, [], length, Option, Some, IfSome}
use Rattle.cq_outside.specs.declared.shelf.TheConstants.{SIZE_LIMIT}
use Rattle.cq_words.specs.Asked.{Asked, ToRun}
use Rattle.spec_command.specs.Endings.{Ends, Gains, absent_line, large_line, input_line, read_line, write_line, memory_line}
use Rattle.spec_command.specs.Outside.{Outside, budgets_of}
use Rattle.spec_command.specs.declared.endings.status.Status.{Status}
use Rattle.spec_command.specs.declared.endings.status.Status.TheVariants.{NoFile, ReadFault, WriteFault, NoMemory}
use Rattle.spec_numbers.specs.Texts.{Text}
use Rattle.spec_search.specs.Database.{Database, initial}
use Rattle.spec_transcript.specs.Session.{Marks, Opening, Over}
use Rattle.cq_session.specs.Progress.{Advanced}
use Rattle.cq_session.specs.declared.transcript.halt.Halt.{Halt}
use Rattle.cq_session.specs.declared.transcript.halt.Halt.TheVariants.{Absent, TooLarge, TooMuchInput, Read, Write, Memory}

-- the status of a transcript that breaks off, and its line
abbrev pub status_of : Halt → Status
status_of (Absent name) = NoFile
status_of (TooLarge name) = NoFile
status_of TooMuchInput = NoFile
status_of Read = ReadFault
status_of Write = WriteFault
status_of Memory = NoMemory

abbrev pub line_of : Halt → Text
line_of (Absent name) = absent_line name.now
line_of (TooLarge name) = large_line name.now
line_of TooMuchInput = input_line
line_of Read = read_line
line_of Write = write_line
line_of Memory = memory_line

-- the whole transcript was written, and the input is read to its end
pub record IsWhole (o : Outside) (a : Asked) (left : Option (List ℕ)) (marks : Marks) (held now : Option (List ℕ)) : Type 0 where
  pub database : Database
  pub advanced : Advanced (budgets_of a) o (Opening initial a.files) marks (Over database) held now
  pub size : length o.input ≤ SIZE_LIMIT
  pub read : IfSome left (λ bytes. bytes ≡ [])

-- it broke off so, and what was appended is what a run that ends so wrote
pub record Halts (o : Outside) (a : Asked) (left : Option (List ℕ)) (h : Halt) (held now : Option (List ℕ)) : Type 0 where
  pub text : Text
  pub rest : List ℕ
  pub is_left : IfSome left (λ bytes. rest ≡ bytes)
  pub ends : Ends o rest (Some (ToRun a)) (status_of h) text (line_of h)
  pub written : Gains (status_of h) held now text
