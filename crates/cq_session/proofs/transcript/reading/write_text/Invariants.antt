use Rattle.std.proofs.Common.{◌≡◌, ◌≤◌, ◌-◌, length}
use Rattle.spec_transcript.specs.Session.{Reader}
use Rattle.spec_command.specs.Outside.{Outside}
use Rattle.cq_session.specs.Progress.{marks_of}
use Rattle.cq_session.specs.Texts.{IsAt, StandsAt, StopsShort}
use Rattle.cq_session.proofs.transcript.reading.write_text.Given as goal

-- the transcript is written up to the text's place, and no write failed
abbrev pub invariant-clauses : goal.invariant-clauses
invariant-clauses g l = record {
  stands : (o : Outside) (r : Reader) → IsAt r l.fn.source l.fn.text (g.P.Interpreter.program l.fn.program)
      → StandsAt (g.P.Interpreter.budgets l.fn.program) o r l.fn.source (marks_of l.lines) (g.P.Interpreter.program l.fn.program) (g.P.Interpreter.program l.program) l.text
      (g.O.Sink.held l.fn.out) (g.O.Sink.held l.out);
  place : l.text.place ≤ length l.text.bytes;
  short : StopsShort l.fn.text → StopsShort l.text;
  bytes : l.text.bytes ≡ l.fn.text.bytes;
  finished : l.text.finished ≡ l.fn.text.finished;
  kept : g.P.Interpreter.kept l.program;
  budgets : g.P.Interpreter.budgets l.program ≡ g.P.Interpreter.budgets l.fn.program;
  faults : g.O.Sink.faults l.out ≡ g.O.Sink.faults l.fn.out;
}

abbrev pub decreases-clauses : goal.decreases-clauses
decreases-clauses g l = length l.text.bytes - l.text.place
