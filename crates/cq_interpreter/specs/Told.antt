-- What an engine tells, and what is written of it.
use Rattle.std.specs.Prelude.{◌≡◌, ℕ, length, Result, Ok, Err, Vec, ⊤}
use Rattle.std.specs.declared.alloc.Global.{Global}
use Rattle.spec_transcript.specs.Causes as why
use Rattle.spec_transcript.specs.Causes.{Cause, stop_text}
use Rattle.spec_transcript.specs.Purposes.{ball_line}
use Rattle.cq_branch.specs.Stored.{stored_tree}
use Rattle.cq_term.specs.Names.{HasNamesBelow}
use Rattle.cq_project.specs.declared.eliminate.ProjectFault.{ProjectFault}
use Rattle.cq_project.specs.declared.eliminate.ProjectFault.TheVariants.{Overflow, Pivots, Rows, NoMemory}
use Rattle.cq_machine.specs.declared.machine.Machine.{Machine}
use Rattle.cq_machine.specs.Machines.{database_of}
use Rattle.cq_engine.specs.Fronts.{as_cause}
use Rattle.cq_engine.specs.declared.events.event.Event as events
use Rattle.cq_engine.specs.declared.events.event.Event.TheVariants as told
use Rattle.cq_session.specs.declared.transcript.interpreter.Answered.{Answered}
use Rattle.cq_session.specs.declared.transcript.interpreter.Answered.TheVariants as answered
use Rattle.cq_session.specs.declared.transcript.interpreter.Event.{Event}
use Rattle.cq_session.specs.declared.transcript.interpreter.Event.TheVariants as event

-- the names of a ball have texts
abbrev pub HasBall : Machine → events.Event → Type 0
HasBall m (told.Ball stored) = HasNamesBelow (length m.atoms) stored.term
HasBall m told.Answer = ⊤
HasBall m (told.Output text) = ⊤
HasBall m told.Fail = ⊤
HasBall m (told.Stop cause) = ⊤

-- it is the same, with the line of a ball or a stop
abbrev pub IsTold : Machine → events.Event → Event → Type 0
IsTold m (told.Output text) e = e ≡ event.Wrote text
IsTold m told.Answer e = e ≡ event.Answer
IsTold m told.Fail e = e ≡ event.Fail
IsTold m (told.Ball stored) (event.Ball line) = line.items ≡ ball_line (database_of m).operators (stored_tree m.atoms stored)
IsTold m (told.Ball stored) e = ⊥
IsTold m (told.Stop cause) (event.Stop line) = line.now ≡ stop_text (as_cause cause)
IsTold m (told.Stop cause) e = ⊥

-- the lines that were made, or the line of a stop for this cause; none comes of want of memory
abbrev pub IsWritten : Result (Vec ℕ Global) ProjectFault → Answered → Type 0
IsWritten (Ok text) (answered.Lines lines) = lines ≡ text
IsWritten (Ok text) (answered.Stop line) = ⊥
IsWritten (Err (Overflow pair)) (answered.Stop line) = line.now ≡ stop_text (why.Overflow pair)
IsWritten (Err (Pivots n)) (answered.Stop line) = line.now ≡ stop_text (why.Pivots n)
IsWritten (Err (Rows p n rest rows)) (answered.Stop line) = line.now ≡ stop_text (why.Projection p n rest rows.items)
IsWritten (Err NoMemory) (answered.Stop line) = ⊥
IsWritten (Err fault) (answered.Lines lines) = ⊥
