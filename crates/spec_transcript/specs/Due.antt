-- When a stop is due: some moment of the next turn shows its cause.
use Rattle.std.specs.Prelude.{◌≡◌, ℕ, List, Option, Some}
use Rattle.cq_frac.specs.declared.Pair.{Pair}
use Rattle.spec_linear.specs.Solution.{Constraint}
use Rattle.spec_simplex.specs.Overflow.{Moment, OverflowDue}
use Rattle.spec_simplex.specs.Answers.{IsAnswerMoment, IsProjectionDue}
use Rattle.spec_simplex.specs.Chains.{IsBlandChain}
use Rattle.spec_syntax.specs.TextTokens.{VariableName}
use Rattle.spec_syntax.specs.Trees.{Tree}
use Rattle.spec_answers.specs.Targets.{wanted}
use Rattle.spec_branch.specs.Branch.{State, Item, Pending, Branch, read}
use Rattle.spec_search.specs.Rows.{reply_of}
use Rattle.spec_search.specs.Search.{Search, look_at, Settling, Selecting, Answering}
use Rattle.spec_search.specs.Turns.{place_of}
use Rattle.spec_transcript.specs.Causes.{Budgets, Cause, Pivots, Overflow, Projection}
use Rattle.spec_transcript.specs.Settlings.{IsSettlingMoment}
use Rattle.spec_transcript.specs.Questions.{IsQuestionMoment}

-- a moment of the next turn of a search; the names are those of the query's variables where an answer's lines are made
pub data IsMoment (names : Option (List VariableName)) (s : Search) (m : Moment) : Type 0 where
  settles : {items : List Item} {st : State} {p : Pending} {bs : List Branch}
      → look_at s.branches ≡ Settling items st p bs
      → IsSettlingMoment st p m → IsMoment names s m
  asks : {goal : Tree} {cut : ℕ} {items : List Item} {st : State} {bs : List Branch}
      → look_at s.branches ≡ Selecting goal cut items st bs
      → IsQuestionMoment st (reply_of (place_of s st items cut bs) (read st goal)) m → IsMoment names s m
  answers : {vs : List VariableName} {st : State} {bs : List Branch} → names ≡ Some vs
      → look_at s.branches ≡ Answering st bs
      → IsAnswerMoment (wanted vs st) st.linear m → IsMoment names s m

-- why the next turn may stop the query
pub data Due (budgets : Budgets) (names : Option (List VariableName)) (s : Search) : Cause → Type 0 where
  -- an operation on the way refuses its two numbers
  overflow : {m : Moment} {pair : Pair} → IsMoment names s m → OverflowDue m pair → Due budgets names s (Overflow pair)
  -- so many exchanges follow one another for a form that is asked on the way, and another is due
  pivots : {m : Moment} → IsMoment names s m → IsBlandChain m budgets.pivots
      → Due budgets names s (Pivots budgets.pivots)
  -- eliminating a variable from the rows of the answer would leave too many
  rows : {vs : List VariableName} {st : State} {bs : List Branch} {p n rest : ℕ} {list : List Constraint}
      → names ≡ Some vs
      → look_at s.branches ≡ Answering st bs → IsProjectionDue (wanted vs st) st.linear budgets.rows p n rest list
      → Due budgets names s (Projection p n rest list)
