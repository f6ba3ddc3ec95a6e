use Rattle.std.proofs.Common.{length, subst}
use Rattle.cq_goals.specs.ArithFaults.{IsNamedBelow}
use Rattle.cq_goals.proofs.arithmetic.goal_fault.Goals as goal

pub returns-in-Error-clause-culprit : goal.returns-in-Error-clause-culprit
returns-in-Error-clause-culprit c = λ texts ts h. c.goal_error.ensures.culprit texts ts (subst (IsNamedBelow (length texts)) c.in-Error.is h)
