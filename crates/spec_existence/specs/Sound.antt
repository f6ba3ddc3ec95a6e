-- What a search needs so that it has a next turn. It holds of each search that a query reaches.
use Rattle.std.specs.Prelude.{◌≡◌, List, [], ◌∷◌, ⊤, Option, None, Some}
use Rattle.std.specs.List.{AllByRecursion}
use Rattle.spec_linear.specs.Solution.{Solvable}
use Rattle.spec_projection.specs.Lists.{AreForms}
use Rattle.spec_branch.specs.Branch.{State, Copied, Item, Goal, CutTo, CutFail, CatchEnd, Collect, Gathered, Phase, Settled, Unsettled, Branch}
use Rattle.spec_existence.specs.Bounded.{IsBounded}

-- finitely many variables are numeric, and the linear constraints list their products in order
pub record IsSoundState (st : State) : Type 0 where
  pub bounded : IsBounded st
  pub forms : AreForms st.linear

-- the copy carries no linear constraints
abbrev pub CarriesNoRows : Copied → Type 0
CarriesNoRows c = c.rows ≡ []

-- what a mark keeps
abbrev pub IsSoundItem : Item → Type 0
IsSoundItem (Goal t h) = ⊤
IsSoundItem (CutTo k) = ⊤
IsSoundItem (CutFail k) = ⊤
IsSoundItem (CatchEnd k st c r) = IsSoundState st
IsSoundItem (Collect k t) = ⊤
IsSoundItem (Gathered t cs) = AllByRecursion CarriesNoRows cs

-- each of the items is sound
abbrev pub AreSoundItems : List Item → Type 0
AreSoundItems [] = ⊤
AreSoundItems (i ∷ is) = IsSoundItem i × AreSoundItems is

-- a ball carries no rows
abbrev pub IsSoundBall : Option Copied → Type 0
IsSoundBall None = ⊤
IsSoundBall (Some c) = CarriesNoRows c

-- the constraints of a settled branch have a solution; no rows are to be told to another one
abbrev pub IsSoundPhase : State → Phase → Type 0
IsSoundPhase st Settled = Solvable st.linear
IsSoundPhase st (Unsettled p) = (p.rows ≡ []) × IsSoundBall p.ball

-- all parts of a branch are sound
pub record IsSoundBranch (b : Branch) : Type 0 where
  pub items : AreSoundItems b.items
  pub state : IsSoundState b.state
  pub phase : IsSoundPhase b.state b.phase

-- each of the branches is sound
abbrev pub AreSound : List Branch → Type 0
AreSound [] = ⊤
AreSound (b ∷ bs) = IsSoundBranch b × AreSound bs
