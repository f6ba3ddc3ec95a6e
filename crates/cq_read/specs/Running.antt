-- What is read from a clause on that is being read.
use Rattle.std.specs.Prelude.{◌≡◌, ℕ, ◌<◌, ◌≤◌, List, length, None, IsSome, ◌⊎◌}
use Rattle.spec_numbers.specs.Texts.{Text}
use Rattle.cq_term.specs.Texts.{KeepsTexts, AreDifferent}
use Rattle.spec_syntax.specs.Machine.{start}
use Rattle.spec_text.specs.Readings as readings
use Rattle.spec_text.specs.Runs.{ReadsOn, IsBefore}
use Rattle.spec_text.specs.Later.{variables_from}
use Rattle.cq_ops.specs.Tables.{Tables, named}
use Rattle.cq_term.specs.HeapValue.{Terms}
use Rattle.cq_read.specs.declared.parse.frames.State.{State}
use Rattle.cq_read.specs.Known.{KnowsState}
use Rattle.cq_read.specs.declared.clause.Clause.{Clause}
use Rattle.cq_read.specs.declared.reading.Turn.{Turn}
use Rattle.cq_read.specs.declared.reading.Turn.TheVariants as turn
use Rattle.cq_read.specs.Clauses.{IsLive, state, variables_so_far, whole_term}
use Rattle.cq_read.specs.Shown.{read_of, MachineRead, IsLiveRead}

-- no token was read yet, or more than layout stands at the place where reading began
abbrev pub Begun : List ℕ → ℕ → ℕ → State → Type 0
Begun text from place s = ((from ≡ place) × (whole_term s ≡ None)) ⊎ ((from < place) × IsBefore text from)

-- what is read from the clause on is read from the start, with variables counted on from n
abbrev pub ReadFromHere : List Text → Tables → List ℕ → ℕ → ℕ → Terms → Clause → ℕ → Type 0
ReadFromHere texts ops text from n heap clause place =
    (r : readings.Read) → ReadsOn (named texts ops) text (state texts heap clause) place (variables_so_far heap clause) r → ReadsOn (named texts ops) text start from (variables_from n) r

-- The clause began at a place and goes on at another: so it is by all texts that keep those of the names.
pub record IsRunning (ops : Tables) (text : List ℕ) (from n : ℕ) (atoms : List Text) (heap : Terms) (clause : Clause) (place : ℕ) : Type 0 where
  pub fits : place ≤ length text
  pub live : IsLive heap clause
  pub begun : Begun text from place clause.state
  pub known : (texts : List Text) → KeepsTexts atoms texts → KnowsState texts clause.state
  pub same : (texts : List Text) → KeepsTexts atoms texts → AreDifferent texts → ReadFromHere texts ops text from n heap clause place

-- behind a token the clause goes on further on, or something else is read
abbrev pub Turned : Tables → List ℕ → ℕ → ℕ → List Text → Terms → Clause → ℕ → Turn → Type 0
Turned ops text from n atoms heap clause place (turn.Goes next) = (place < next) × IsRunning ops text from n atoms heap clause next
Turned ops text from n atoms heap clause place (turn.Stops read) = MachineRead (named atoms ops) text from n (read_of atoms heap read) × IsLiveRead heap read

-- the clause is whole and goes on at a place, or something else is read
abbrev pub IsStopped : Tables → List ℕ → ℕ → ℕ → List Text → Terms → Clause → Turn → Type 0
IsStopped ops text from n atoms heap clause (turn.Goes next) = IsSome (whole_term clause.state) × IsRunning ops text from n atoms heap clause next
IsStopped ops text from n atoms heap clause (turn.Stops read) = MachineRead (named atoms ops) text from n (read_of atoms heap read) × IsLiveRead heap read
