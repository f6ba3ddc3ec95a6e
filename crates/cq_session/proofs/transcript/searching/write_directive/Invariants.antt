use Rattle.std.proofs.Common.{◌≡◌}
use Rattle.spec_search.specs.Search.{Search}
use Rattle.spec_transcript.specs.Session.{ADirective}
use Rattle.cq_session.specs.Searches.{HasCome}
use Rattle.cq_session.proofs.transcript.searching.write_directive.Given as goal

-- each search has come to one for which the program stands, and no write failed
abbrev pub invariant-events : goal.invariant-events
invariant-events g l = record {
  came : (s : Search) → g.P.Interpreter.stands l.fn.program s
      → HasCome (g.P.Interpreter.budgets l.fn.program) (g.P.Interpreter.stands l.program) s ADirective ADirective (g.O.Sink.held l.fn.out) (g.O.Sink.held l.out);
  kept : g.P.Interpreter.kept l.program;
  budgets : g.P.Interpreter.budgets l.program ≡ g.P.Interpreter.budgets l.fn.program;
  later : (g.P.Interpreter.program l.program).later ≡ (g.P.Interpreter.program l.fn.program).later;
  faults : g.O.Sink.faults l.out ≡ g.O.Sink.faults l.fn.out;
}

abbrev pub decreases-events : goal.decreases-events
decreases-events g l = g.P.Interpreter.left l.program
