use Rattle.std.proofs.Common.{◌≡◌, [], ℕ, drop, map, Some}
use Rattle.spec_transcript.specs.Session.{Opening}
use Rattle.spec_command.specs.Causes.{counted}
use Rattle.spec_command.specs.Outside.{Outside}
use Rattle.cq_session.specs.Progress.{Advanced, marks_of}
use Rattle.cq_session.proofs.transcript.texts.write_files.Given as goal

-- the transcript of the files so far is written, and nothing failed
abbrev pub invariant-loop-name : goal.invariant-loop-name
invariant-loop-name g l = record {
  advanced : (o : Outside) → g.F.Shelf.files l.fn.shelf ≡ Some o.files
      → Advanced (g.P.Interpreter.budgets l.fn.program) o (Opening (g.P.Interpreter.program l.fn.program).database (map (λ s. s.now) l.fn.files)) (marks_of l.lines)
      (Opening (g.P.Interpreter.program l.program).database (map (λ s. s.now) (drop l.name-index l.files))) (g.O.Sink.held l.fn.out) (g.O.Sink.held l.out);
  unread : l.fn.files ≡ [] → l.shelf ≡ l.fn.shelf;
  files : g.F.Shelf.files l.shelf ≡ g.F.Shelf.files l.fn.shelf;
  none_waits : (g.P.Interpreter.program l.program).later ≡ [];
  kept : g.P.Interpreter.kept l.program;
  budgets : g.P.Interpreter.budgets l.program ≡ g.P.Interpreter.budgets l.fn.program;
  counts : (failed taken : ℕ) → counted (g.F.Shelf.faults l.shelf) (g.F.Shelf.refused l.shelf) failed taken (g.O.Sink.faults l.out)
      ≡ counted (g.F.Shelf.faults l.fn.shelf) (g.F.Shelf.refused l.fn.shelf) failed taken (g.O.Sink.faults l.fn.out);
}
