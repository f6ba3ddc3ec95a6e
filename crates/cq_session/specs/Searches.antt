-- How far the search of a query or a directive came.
use Rattle.std.specs.Prelude.{ℕ, ◌-◌, List, Option, Some, None}
use Rattle.spec_syntax.specs.Operators.{Ops}
use Rattle.spec_syntax.specs.TextTokens.{VariableName}
use Rattle.spec_branch.specs.Branch.{State}
use Rattle.spec_search.specs.Search.{Search}
use Rattle.spec_search.specs.Turns.{Answered}
use Rattle.spec_transcript.specs.Causes.{Budgets}
use Rattle.spec_engine.specs.Coming.{Tells, Shows}
use Rattle.spec_transcript.specs.Session.{Asker, AQuery, Session, Reading, Searching, Marks, unmarked, Reader}
use Rattle.spec_command.specs.Outside.{Outside}
use Rattle.cq_session.specs.Progress.{Advanced, marks_of}
use Rattle.cq_session.specs.declared.transcript.halt.Lines.{Lines}

-- A search has come to one for which an interpreter stands, and what is written on the way was appended, whatever is read then.
pub record HasCome (b : Budgets) (Stands : Search → Type 0) (s : Search) (who now_who : Asker) (held now : Option (List ℕ)) : Type 0 where
  pub reached : Search
  pub stands : Stands reached
  pub advanced : (o : Outside) (r : Reader) → Advanced b o (Searching s who r) unmarked (Searching reached now_who r) held now

-- the search answers next, by a state and operators that are those of the answer
pub record Answers (b : Budgets) (IsAnswer : State → Ops → Type 0) (s t : Search) : Type 0 where
  pub state : State
  pub ops : Ops
  pub answers : IsAnswer state ops
  pub tells : Tells b s (Shows (Answered state ops)) t

-- where a session stands behind an answer: the query is over, with these lines, or it goes on and may write one answer less
abbrev pub behind_answer : Option Lines → Search → List VariableName → ℕ → Reader → Session
behind_answer (Some lines) t names left r = Reading t.database r
behind_answer None t names left r = Searching t (AQuery names (left - 1)) r

abbrev pub marks_behind : Option Lines → Marks
marks_behind (Some lines) = marks_of lines
marks_behind None = unmarked
