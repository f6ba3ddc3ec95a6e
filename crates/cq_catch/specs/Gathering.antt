-- What an engine comes to at the mark of a findall.
use Rattle.std.specs.Prelude.{◌≡◌, ℕ, List, [], ◌∷◌, ◌++◌, length, ⊤}
use Rattle.cq_resolve.specs.StoredValue.{StoredValue}
use Rattle.spec_engine.specs.declared.machine.cell.Cell.{Cell}
use Rattle.spec_engine.specs.declared.machine.cell.Cell.TheVariants.{Goal, Call, CutTo, CutFail, CatchEnd, Collect}
use Rattle.cq_branch.specs.declared.alternatives.Alternatives.{Alternatives}
use Rattle.cq_branch.specs.declared.alternatives.Alternatives.TheVariants.{Gathers}

-- the mark of a findall is in front
abbrev pub IsMark : List Cell → Type 0
IsMark [] = ⊥
IsMark (Goal t height ∷ cs) = ⊥
IsMark (Call t ∷ cs) = ⊥
IsMark (CutTo height ∷ cs) = ⊥
IsMark (CutFail height ∷ cs) = ⊥
IsMark (CatchEnd height c r ∷ cs) = ⊥
IsMark (Collect height t ∷ cs) = ⊤

-- the choice with so many older ones gathers
pub record GathersThere (choices : List Alternatives) (height : ℕ) : Type 0 where
  pub newer : List Alternatives
  pub older : List Alternatives
  pub list : ℕ
  pub copies : List StoredValue
  pub rest : ℕ
  pub are : choices ≡ newer ++ Gathers list copies rest ∷ older
  pub below : length older ≡ height

-- it gathered one more copy, and nothing else has changed
abbrev pub GathersMore : List Alternatives → ℕ → StoredValue → List Alternatives → Type 0
GathersMore old height copy new =
    (g : GathersThere old height) × (new ≡ g.newer ++ Gathers g.list (g.copies ++ copy ∷ []) g.rest ∷ g.older)
