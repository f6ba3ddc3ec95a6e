use Rattle.std.proofs.Common.{◌≡◌, length}
use Rattle.spec_syntax.specs.Operators.{Ops}
use Rattle.spec_text.specs.Readings.{Reads, Ended}
use Rattle.spec_transcript.specs.Session.{Reader, Reading}
use Rattle.spec_command.specs.Outside.{Outside}
use Rattle.cq_session.specs.Progress.{Advanced, marks_of}
use Rattle.cq_session.proofs.transcript.files.write_waiting.Given as goal

-- what the goals so far write is written, and no write failed
abbrev pub invariant-goals : goal.invariant-goals
invariant-goals g l = record {
  advanced : (o : Outside) (r : Reader) (ops : Ops) → r.later ≡ (g.P.Interpreter.program l.fn.program).later → Reads ops r.bytes r.at Ended
      → Advanced (g.P.Interpreter.budgets l.fn.program) o (Reading (g.P.Interpreter.program l.fn.program).database r) (marks_of l.lines)
      (Reading (g.P.Interpreter.program l.program).database (record r { later = (g.P.Interpreter.program l.program).later })) (g.O.Sink.held l.fn.out) (g.O.Sink.held l.out);
  kept : g.P.Interpreter.kept l.program;
  budgets : g.P.Interpreter.budgets l.program ≡ g.P.Interpreter.budgets l.fn.program;
  faults : g.O.Sink.faults l.out ≡ g.O.Sink.faults l.fn.out;
}

abbrev pub decreases-goals : goal.decreases-goals
decreases-goals g l = length (g.P.Interpreter.program l.program).later
