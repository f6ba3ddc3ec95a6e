use Rattle.std.proofs.Common.{◌≡◌, ◌<◌, ◌+◌, ◌-◌}
use Rattle.spec_search.specs.Search.{Search}
use Rattle.spec_command.specs.Outcome.{gen_budgets}
use Rattle.cq_session.specs.Counting.{HasCounted, gen_names}
use Rattle.cq_session.proofs.generating.course.run_query.Given as goal

-- each search has come to one for which the program stands, by fewer answers than are allowed
abbrev pub invariant-events : goal.invariant-events
invariant-events g l = record {
  came : (s : Search) → g.P.Interpreter.stands l.fn.program s
      → HasCounted l.fn.number (g.P.Interpreter.stands l.program) l.answers l.value.items s;
  few : l.answers < 10;
  named : g.P.Interpreter.names l.program ≡ gen_names l.fn.number;
  kept : g.P.Interpreter.kept l.program;
  budgets : g.P.Interpreter.budgets l.program ≡ gen_budgets;
}

abbrev pub decreases-events : goal.decreases-events
decreases-events g l = (10 - l.answers) + g.P.Interpreter.left l.program
