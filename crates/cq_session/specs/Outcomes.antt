-- How a run of the command ended: its status, its line, and what it shows of the outside.
use Rattle.std.specs.Prelude.{◌≡◌, ℕ, List, [], Bool, true, false, Option, IfSome, ⊤}
use Rattle.cq_words.specs.Asked.{Asked, Task, ToRun, ToGen}
use Rattle.cq_words.specs.declared.words.WordsFault.{WordsFault}
use Rattle.cq_words.specs.declared.words.WordsFault.TheVariants as words_fault
use Rattle.cq_session.specs.Halts as halts
use Rattle.cq_session.specs.declared.transcript.halt.Halt.TheVariants.{Memory}
use Rattle.spec_numbers.specs.Texts.{Text}
use Rattle.spec_command.specs.Endings.{Ends, Gains, words_line}
use Rattle.spec_command.specs.Generated.{GenEnds}
use Rattle.spec_command.specs.Outside.{Outside}
use Rattle.spec_command.specs.declared.endings.status.Status.{Status}
use Rattle.spec_command.specs.declared.endings.status.Status.TheVariants as status
use Rattle.cq_session.specs.declared.ending.Ending.{Ending}
use Rattle.cq_session.specs.declared.ending.Ending.TheVariants.{Whole, BadWords, Broken}

-- a run that found no words
abbrev pub fault_ending : WordsFault → Ending
fault_ending words_fault.BadWords = BadWords
fault_ending words_fault.NoMemory = Broken Memory

-- of a transcript with an error line or not, and with a stop or not
abbrev pub whole_status : Bool → Bool → Status
whole_status faulty true = status.Stopped
whole_status true false = status.Faulty
whole_status false false = status.Done

abbrev pub status_of : Ending → Status
status_of (Whole lines) = whole_status lines.faulty lines.stopped
status_of BadWords = status.BadWords
status_of (Broken halt) = halts.status_of halt

abbrev pub line_of : Ending → Text
line_of (Whole lines) = []
line_of BadWords = words_line
line_of (Broken halt) = halts.line_of halt

-- of the outside: a run that ends so leaves so much of the input, and writes what `out` gained
pub record Shows (o : Outside) (left : Option (List ℕ)) (asked : Option Task) (e : Ending) (held now : Option (List ℕ)) : Type 0 where
  pub text : Text
  pub rest : List ℕ
  pub is_left : IfSome left (λ bytes. rest ≡ bytes)
  pub ends : Ends o rest asked (status_of e) text (line_of e)
  pub written : Gains (status_of e) held now text

-- of a number's query: a run of `gen` that ends so writes what `out` gained
pub record GenShows (n : ℕ) (e : Ending) (held now : Option (List ℕ)) : Type 0 where
  pub text : Text
  pub ends : GenEnds n (status_of e) text (line_of e)
  pub written : Gains (status_of e) held now text

-- no file is asked for
abbrev pub NamesNoFile : Task → Type 0
NamesNoFile (ToRun a) = a.files ≡ []
NamesNoFile (ToGen n) = ⊤

-- where a transcript is asked for, this holds
abbrev pub IfRun : Task → (Asked → Type 0) → Type 0
IfRun (ToRun a) P = P a
IfRun (ToGen n) P = ⊤
