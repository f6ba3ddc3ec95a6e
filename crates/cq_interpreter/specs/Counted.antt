-- Branches that have so many variables at least.
use Rattle.std.specs.Prelude.{ℕ, ◌≤◌, List, [], ◌∷◌, ⊤}
use Rattle.spec_branch.specs.Branch.{Item, CatchEnd, Branch}

-- the state of each catch that is under way has so many variables
abbrev pub CatchesCount : ℕ → List Item → Type 0
CatchesCount n [] = ⊤
CatchesCount n (CatchEnd k st c r ∷ items) = (n ≤ st.fresh) × CatchesCount n items
CatchesCount n (i ∷ items) = CatchesCount n items

-- new variables of the branch are numbered from there on, or from a higher number
pub record Counts (n : ℕ) (b : Branch) : Type 0 where
  pub state : n ≤ b.state.fresh
  pub catches : CatchesCount n b.items

abbrev pub AllCount : ℕ → List Branch → Type 0
AllCount n [] = ⊤
AllCount n (b ∷ bs) = Counts n b × AllCount n bs
