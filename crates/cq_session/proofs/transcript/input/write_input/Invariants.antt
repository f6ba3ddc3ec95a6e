use Rattle.std.proofs.Common.{◌≡◌, ◌≤◌, ◌+◌, [], length, true, Some, if◌then◌else◌}
use Rattle.std.specs.Io.KnownBytes.{IsAtEnd}
use Rattle.cq_outside.specs.Whole.{TakesBytes}
use Rattle.cq_outside.specs.declared.shelf.TheConstants.{SIZE_LIMIT}
use Rattle.spec_transcript.specs.Session.{Opening}
use Rattle.spec_command.specs.Outside.{Outside}
use Rattle.cq_session.specs.Progress.{marks_of}
use Rattle.cq_session.specs.Texts.{StopsShort}
use Rattle.cq_session.proofs.Inputs.{StandsIn}
use Rattle.cq_session.proofs.transcript.input.write_input.Given as goal

-- the text is what was taken of the input, its transcript is written up to its place, and nothing failed
abbrev pub invariant-pieces : goal.invariant-pieces
invariant-pieces g l = record {
  stands : (o : Outside) → g.I.Source.left l.fn.input ≡ Some o.input
      → StandsIn (g.P.Interpreter.budgets l.fn.program) o (Opening (g.P.Interpreter.program l.fn.program).database []) (marks_of l.lines) (g.P.Interpreter.program l.program) l.text
      (g.O.Sink.held l.fn.out) (g.O.Sink.held l.out);
  taken : TakesBytes (g.I.Source.left l.fn.input) (g.I.Source.left l.input) (g.I.Source.taken l.fn.input) (g.I.Source.taken l.input) l.text.bytes;
  room : length l.text.bytes + l.room ≡ SIZE_LIMIT;
  finished : l.text.finished ≡ true → IsAtEnd (g.I.Source.left l.input);
  place : l.text.place ≤ length l.text.bytes;
  short : StopsShort l.text;
  none_waits : (g.P.Interpreter.program l.program).later ≡ [];
  kept : g.P.Interpreter.kept l.program;
  budgets : g.P.Interpreter.budgets l.program ≡ g.P.Interpreter.budgets l.fn.program;
  reads : g.I.Source.faults l.input ≡ g.I.Source.faults l.fn.input;
  writes : g.O.Sink.faults l.out ≡ g.O.Sink.faults l.fn.out;
}

abbrev pub decreases-pieces : goal.decreases-pieces
decreases-pieces g l = l.room + (if l.text.finished then 0 else 1)
