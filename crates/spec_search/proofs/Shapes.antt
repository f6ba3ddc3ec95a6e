-- Branches of two searches side by side: which are the same, and which stand in one alone and are pruned without a trace.
-- An item's height counts the branches of its own search, so it is read as a lower end of the common shape.
use Rattle.std.proofs.Common.{◌≡◌, ℕ, suc, List, [], ◌∷◌, ◌++◌, None}
use Rattle.spec_syntax.specs.Trees.{Tree}
use Rattle.spec_branch.specs.Branch.{State, Copied, Item, Goal, CutTo, CutFail, CatchEnd, Collect, Gathered, Branch, Pending, Unsettled}
use Rattle.spec_branch.specs.Settling.{Settles, Pruned, Clash}
use Rattle.spec_search.specs.Control.{call_of}
use Rattle.spec_search.specs.Runs.{SameState}

-- ---- shapes

-- a branch of the first search alone, of the second alone, or of both
pub data Rung : Type 0 where
  OnFirst OnSecond OnBoth : Rung

-- how many branches each search has
abbrev pub first : List Rung → ℕ
first [] = 0
first (OnFirst ∷ s) = suc (first s)
first (OnSecond ∷ s) = first s
first (OnBoth ∷ s) = suc (first s)

abbrev pub second : List Rung → ℕ
second [] = 0
second (OnFirst ∷ s) = second s
second (OnSecond ∷ s) = suc (second s)
second (OnBoth ∷ s) = suc (second s)

-- the older branches of a shape
pub data IsEnd (r : List Rung) : List Rung → Type 0 where
  whole : IsEnd r r
  behind : {x : Rung} {s : List Rung} → IsEnd r s → IsEnd r (x ∷ s)

pub ends_in : {r s t : List Rung} → IsEnd r s → IsEnd s t → IsEnd r t
ends_in a whole = a
ends_in a (behind b) = behind (ends_in a b)

pub nothing_left : (s : List Rung) → IsEnd [] s
nothing_left [] = whole
nothing_left (x ∷ s) = behind (nothing_left s)

-- ---- items

-- the items of a branch that has branches of this shape behind it; heights fall, but for called goals, which don't cut
pub data SameItems : List Rung → List Item → List Item → Type 0 where
  no_item : {s : List Rung} → SameItems s [] []
  goal : {s r : List Rung} {h k : ℕ} {is js : List Item} (t : Tree) → IsEnd r s → h ≡ first r → k ≡ second r
      → SameItems r is js → SameItems s (Goal t h ∷ is) (Goal t k ∷ js)
  call : {s : List Rung} {is js : List Item} (t : Tree) → SameItems s is js → SameItems s (call_of t ∷ is) (call_of t ∷ js)
  cut : {s r : List Rung} {h k : ℕ} {is js : List Item} → IsEnd r s → h ≡ first r → k ≡ second r
      → SameItems r is js → SameItems s (CutTo h ∷ is) (CutTo k ∷ js)
  cut_fails : {s r : List Rung} {h k : ℕ} {is js : List Item} → IsEnd r s → h ≡ first r → k ≡ second r
      → SameItems r is js → SameItems s (CutFail h ∷ is) (CutFail k ∷ js)
  caught : {s r : List Rung} {h k : ℕ} {st su : State} {is js : List Item} (c g : Tree) → IsEnd r s → h ≡ first r → k ≡ second r
      → SameState st su → SameItems r is js → SameItems s (CatchEnd h st c g ∷ is) (CatchEnd k su c g ∷ js)
  collects : {s r : List Rung} {h k : ℕ} {is js : List Item} (t : Tree) → IsEnd (OnBoth ∷ r) s → h ≡ first r → k ≡ second r
      → SameItems r is js → SameItems s (Collect h t ∷ is) (Collect k t ∷ js)
  gathered : {s : List Rung} {is js : List Item} (t : Tree) (cs : List Copied) → SameItems s is js
      → SameItems s (Gathered t cs ∷ is) (Gathered t cs ∷ js)

-- more branches behind
pub higher : {r s : List Rung} {is js : List Item} → IsEnd r s → SameItems r is js → SameItems s is js
higher e no_item = no_item
higher e (goal t a h k i) = goal t (ends_in a e) h k i
higher e (call t i) = call t (higher e i)
higher e (cut a h k i) = cut (ends_in a e) h k i
higher e (cut_fails a h k i) = cut_fails (ends_in a e) h k i
higher e (caught c g a h k st i) = caught c g (ends_in a e) h k st i
higher e (collects t a h k i) = collects t (ends_in a e) h k i
higher e (gathered t cs i) = gathered t cs (higher e i)

-- ---- branches

pub record SameBranch (s : List Rung) (b c : Branch) : Type 0 where
  pub items : SameItems s b.items c.items
  pub state : SameState b.state c.state
  pub phase : b.phase ≡ c.phase

-- a branch that is pruned and hands on no ball
pub record IsDoomed (b : Branch) : Type 0 where
  pub work : Pending
  pub unsettled : b.phase ≡ Unsettled work
  pub pruned : Settles b.items b.state work (Pruned Clash)
  pub no_ball : work.ball ≡ None

-- branches of both searches, in this shape over another one
abbrev pub SameOver : List Rung → List Rung → List Branch → List Branch → Type 0
SameOver s [] [] [] = Unit {0}
SameOver s (OnFirst ∷ t) (b ∷ bs) cs = IsDoomed b × SameOver s t bs cs
SameOver s (OnSecond ∷ t) bs (c ∷ cs) = IsDoomed c × SameOver s t bs cs
SameOver s (OnBoth ∷ t) (b ∷ bs) (c ∷ cs) = SameBranch (t ++ s) b c × SameOver s t bs cs
SameOver s t bs cs = ⊥

-- all branches of both searches
abbrev pub SameBranches : List Rung → List Branch → List Branch → Type 0
SameBranches [] [] [] = Unit {0}
SameBranches (OnFirst ∷ s) (b ∷ bs) cs = IsDoomed b × SameBranches s bs cs
SameBranches (OnSecond ∷ s) bs (c ∷ cs) = IsDoomed c × SameBranches s bs cs
SameBranches (OnBoth ∷ s) (b ∷ bs) (c ∷ cs) = SameBranch s b c × SameBranches s bs cs
SameBranches s bs cs = ⊥
