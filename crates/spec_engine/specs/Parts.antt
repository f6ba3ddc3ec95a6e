-- What steps of a session write, one behind another, and why making an answer's lines stops a query.
use Rattle.std.specs.Prelude.{ℕ, List, ◌||◌, true, false}
use Rattle.cq_frac.specs.declared.Pair.{Pair}
use Rattle.spec_linear.specs.Solution.{Constraint}
use Rattle.spec_simplex.specs.Overflow.{Moment, OverflowDue}
use Rattle.spec_simplex.specs.Answers.{IsAnswerMoment, IsProjectionDue}
use Rattle.spec_simplex.specs.Chains.{IsBlandChain}
use Rattle.spec_syntax.specs.TextTokens.{VariableName}
use Rattle.spec_answers.specs.Targets.{wanted}
use Rattle.spec_branch.specs.Branch.{State}
use Rattle.spec_transcript.specs.Causes.{Budgets, Cause, Pivots, Overflow, Projection}
use Rattle.spec_transcript.specs.Session.{Marks}

-- the marks of two texts, one behind the other
abbrev pub both : Marks → Marks → Marks
both first second = record { faulty = second.faulty || first.faulty; stopped = second.stopped || first.stopped }

-- an error line, and nothing else that is marked
abbrev pub an_error : Marks
an_error = record { faulty = true; stopped = false }

-- a stop, and nothing else that is marked
abbrev pub a_stop : Marks
a_stop = record { faulty = false; stopped = true }

-- why a query stops while the lines of its answer are made, which is this state
pub data StopsAnswer (budgets : Budgets) (names : List VariableName) (st : State) : Cause → Type 0 where
  overflow : {m : Moment} {pair : Pair} → IsAnswerMoment (wanted names st) st.linear m → OverflowDue m pair
      → StopsAnswer budgets names st (Overflow pair)
  pivots : {m : Moment} → IsAnswerMoment (wanted names st) st.linear m → IsBlandChain m budgets.pivots
      → StopsAnswer budgets names st (Pivots budgets.pivots)
  rows : {p n rest : ℕ} {list : List Constraint} → IsProjectionDue (wanted names st) st.linear budgets.rows p n rest list
      → StopsAnswer budgets names st (Projection p n rest list)
