-- What an interpreter tells of a search.
use Rattle.std.specs.Prelude.{◌≡◌, ◌<◌, ◌≤◌, ℕ, List, ⊤}
use Rattle.spec_syntax.specs.Operators.{Ops}
use Rattle.spec_syntax.specs.TextTokens.{VariableName}
use Rattle.spec_answers.specs.Answer.{AnswerForm}
use Rattle.spec_branch.specs.Branch.{State, Copied}
use Rattle.spec_engine.specs.Coming.{Quietly, Told, Tells, Shows, Stops}
use Rattle.spec_search.specs.Search.{Search}
use Rattle.spec_search.specs.Turns as turn
use Rattle.spec_engine.specs.Parts.{StopsAnswer}
use Rattle.spec_transcript.specs.Causes.{Budgets, Cause, stop_text}
use Rattle.spec_transcript.specs.Purposes.{ball_line}
use Rattle.cq_session.specs.Sentences.{Program}
use Rattle.cq_session.specs.declared.transcript.interpreter.Event.{Event}
use Rattle.cq_session.specs.declared.transcript.interpreter.Event.TheVariants.{Wrote, Answer, Fail, Ball, Stop}
use Rattle.cq_session.specs.declared.transcript.interpreter.Answered.{Answered}
use Rattle.cq_session.specs.declared.transcript.interpreter.Answered.TheVariants as answered

-- the search tells this next; the program has its database then
pub record TellsNext (b : Budgets) (p q : Program) (s : Search) (what : Told) : Type 0 where
  pub after : Search
  pub tells : Tells b s what after
  pub program : q ≡ record p { database = after.database }

-- The search tells this next, and then comes quietly to one for which the interpreter stands. The program has the database of that
-- one: turns that tell nothing may set operators and change clauses.
pub record GoesOn (b : Budgets) (Stands : Search → Type 0) (p q : Program) (s : Search) (what : Told) : Type 0 where
  pub after : Search
  pub tells : Tells b s what after
  pub reached : Search
  pub quiet : Quietly b.steps after reached
  pub program : q ≡ record p { database = reached.database }
  pub stands : Stands reached

-- the search answers next, and the interpreter stands for it then
pub record AnswersNext (b : Budgets) (Stands : Search → Type 0) (Answers : State → Ops → Type 0) (p q : Program) (s : Search) : Type 0 where
  pub state : State
  pub ops : Ops
  pub answers : Answers state ops
  pub next : TellsNext b p q s (Shows (turn.Answered state ops))
  pub stands : Stands next.after

-- what is told of a search next is this event
abbrev pub IsEvent : Budgets → (Search → Type 0) → (State → Ops → Type 0) → Program → Program → Search → Event → Type 0
IsEvent b Stands Answers p q s (Wrote text) = GoesOn b Stands p q s (Shows (turn.Wrote text.items))
IsEvent b Stands Answers p q s Answer = AnswersNext b Stands Answers p q s
IsEvent b Stands Answers p q s Fail = TellsNext b p q s (Shows turn.Ended)
IsEvent b Stands Answers p q s (Ball line) =
    (ball : Copied) × (next : TellsNext b p q s (Shows (turn.Threw ball))) × (line.items ≡ ball_line next.after.database.operators ball.term)
IsEvent b Stands Answers p q s (Stop line) = (cause : Cause) × TellsNext b p q s (Stops cause) × (line.now ≡ stop_text cause)

-- the lines of each answer that was told, or why they stop the query
abbrev pub IsAnswered : Budgets → (State → Ops → Type 0) → List VariableName → Answered → Type 0
IsAnswered b Answers names (answered.Lines text) = (st : State) (ops : Ops) → Answers st ops → AnswerForm ops names st text.items
IsAnswered b Answers names (answered.Stop line) =
    (st : State) (ops : Ops) → Answers st ops → (cause : Cause) × StopsAnswer b names st cause × (line.now ≡ stop_text cause)

-- output takes from what may still be selected, and an answer gives nothing back
abbrev pub TakesFrom : ℕ → ℕ → Event → Type 0
TakesFrom before now (Wrote text) = now < before
TakesFrom before now Answer = now ≤ before
TakesFrom before now e = ⊤
