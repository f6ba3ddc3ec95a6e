-- Runs of a search: turns one after another, and the marks that they leave.
use Rattle.std.specs.Prelude.{◌≡◌, ℕ, List, [], ◌∷◌, ◌++◌, if◌then◌else◌, ◌==◌}
use Rattle.spec_linear.specs.Solution.{Equivalent}
use Rattle.spec_syntax.specs.Operators.{Ops}
use Rattle.spec_branch.specs.Branch.{State}
use Rattle.spec_branch.specs.Alike.{with_linear}
use Rattle.spec_search.specs.Search.{Search}
use Rattle.spec_search.specs.Turns.{Turn, Event, Wrote, Answered}

-- ---- marks

-- what a turn shows, and how many goals were selected by its end
pub record Mark : Type 0 where
  pub event : Event
  pub selected : ℕ

-- the mark of a turn that began after n selected goals and ended after m: none where it writes nothing and selects none
abbrev pub marks : ℕ → Event → ℕ → List Mark
marks n (Wrote []) m = if n == m then [] else record { event = Wrote []; selected = m } ∷ []
marks n e m = record { event = e; selected = m } ∷ []

-- turns one after another, the marks that they leave, and the search then
pub data Run : Search → List Mark → Search → Type 0 where
  begins : {s : Search} → Run s [] s
  goes_on : {s t u : Search} {e : Event} {ms : List Mark} → Turn s e t → Run t ms u
      → Run s (marks s.selected e t.selected ++ ms) u

-- ---- the same marks

-- one state, but for the form of its linear constraints, which have the same solutions
pub record SameState (st su : State) : Type 0 where
  pub state : su ≡ with_linear su.linear st
  pub linear : Equivalent st.linear su.linear

-- one event, but for the form of an answer's linear constraints
pub data SameEvent : Event → Event → Type 0 where
  same : (e : Event) → SameEvent e e
  same_answer : {st su : State} {ops : Ops} → SameState st su → SameEvent (Answered st ops) (Answered su ops)

-- one mark, but for the form of an answer's linear constraints
pub record SameMark (a b : Mark) : Type 0 where
  pub event : SameEvent a.event b.event
  pub selected : a.selected ≡ b.selected

-- the same marks in the same order
pub data SameMarks : List Mark → List Mark → Type 0 where
  no_mark : SameMarks [] []
  one_more : {a b : Mark} {ms ns : List Mark} → SameMark a b → SameMarks ms ns → SameMarks (a ∷ ms) (b ∷ ns)

-- the same marks in the same order, as far as both go
pub data SameAsFar : List Mark → List Mark → Type 0 where
  first_ends : {ns : List Mark} → SameAsFar [] ns
  second_ends : {ms : List Mark} → SameAsFar ms []
  both_go : {a b : Mark} {ms ns : List Mark} → SameMark a b → SameAsFar ms ns → SameAsFar (a ∷ ms) (b ∷ ns)

-- a run that left the marks ms and reached t can go on, until its marks are the same as ns
pub record CatchesUp (ms : List Mark) (t : Search) (ns : List Mark) : Type 0 where
  pub more : List Mark
  pub reached : Search
  pub run : Run t more reached
  pub same : SameMarks (ms ++ more) ns
