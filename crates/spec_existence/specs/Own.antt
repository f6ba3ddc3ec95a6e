-- Endings that come of the words, the files and the input alone.
use Rattle.std.specs.Prelude.{⊤}
use Rattle.spec_command.specs.declared.endings.status.Status.{Status}
use Rattle.spec_command.specs.declared.endings.status.Status.TheVariants.{Done, Faulty, BadWords, NoFile, ReadFault, WriteFault, Stopped, NoMemory}

-- no read or write failed, and memory was there
abbrev pub IsUndisturbed : Status → Type 0
IsUndisturbed Done = ⊤
IsUndisturbed Faulty = ⊤
IsUndisturbed BadWords = ⊤
IsUndisturbed NoFile = ⊤
IsUndisturbed ReadFault = ⊥
IsUndisturbed WriteFault = ⊥
IsUndisturbed Stopped = ⊤
IsUndisturbed NoMemory = ⊥
