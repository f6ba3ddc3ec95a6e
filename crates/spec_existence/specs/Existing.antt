-- What a transcript of files and an input takes to exist.
use Rattle.std.specs.Prelude.{◌≡◌, ℕ, ◌<◌, ◌≤◌, List, [], ◌∷◌, ⊤, length, map, Option, Some}
use Rattle.spec_numbers.specs.Texts.{Text}
use Rattle.spec_linear.specs.Solution.{Solvable}
use Rattle.spec_linear.specs.Echelon.{AreDistinct}
use Rattle.spec_syntax.specs.Operators.{Ops}
use Rattle.spec_syntax.specs.TextTokens.{VariableName}
use Rattle.spec_answers.specs.Answer.{AnswerForm}
use Rattle.spec_branch.specs.Branch.{State}
use Rattle.spec_search.specs.Search.{Search}
use Rattle.spec_transcript.specs.Causes.{Budgets}
use Rattle.spec_transcript.specs.Session.{Reader, Asker, ADirective, AQuery, Session, Opening, Reading, Searching, Over}
use Rattle.spec_existence.specs.Sound.{IsSoundState, AreSound}

-- the files are there
abbrev pub AreThere : (Text → Option (List ℕ)) → List Text → Type 0
AreThere shelf [] = ⊤
AreThere shelf (name ∷ names) = ((bytes : List ℕ) × (shelf name ≡ Some bytes)) × AreThere shelf names

-- no number belongs to two names
abbrev pub AreNumbered : List VariableName → Type 0
AreNumbered names = AreDistinct (map (λ n. n.number) names)

-- each answer has a text: whatever the operators, and whatever state a search ends in
abbrev pub AnswersHaveForms : Type 0
AnswersHaveForms = (ops : Ops) (names : List VariableName) (st : State) → AreNumbered names → IsSoundState st → Solvable st.linear
    → (text : Text) × AnswerForm ops names st text

-- ---- sessions that can be carried on to an end; each that some steps lead to from the files is one

-- who asks may still write an answer, and the names are different variables'
abbrev pub IsAsking : Asker → Type 0
IsAsking ADirective = ⊤
IsAsking (AQuery names n) = (0 < n) × AreNumbered names

-- a search within the budget of goals
pub record IsReadySearch (budgets : Budgets) (s : Search) (who : Asker) : Type 0 where
  pub sound : AreSound s.branches
  pub within : s.selected ≤ budgets.steps
  pub asking : IsAsking who

-- a place within a text, and the files behind it
pub record IsReadyReader (shelf : Text → Option (List ℕ)) (r : Reader) : Type 0 where
  pub within : r.at ≤ length r.bytes
  pub files : AreThere shelf r.files

-- the session can go on: its files are there, and its search can
abbrev pub IsReady : Budgets → (Text → Option (List ℕ)) → Session → Type 0
IsReady budgets shelf (Opening db names) = AreThere shelf names
IsReady budgets shelf (Reading db r) = IsReadyReader shelf r
IsReady budgets shelf (Searching s who r) = IsReadySearch budgets s who × IsReadyReader shelf r
IsReady budgets shelf (Over db) = ⊤
