-- What a search has still to do before it selects a goal or shows something.
use Rattle.std.specs.Prelude.{ℕ, ◌+◌, List, [], ◌∷◌}
use Rattle.spec_branch.specs.Branch.{Item, Goal, Phase, Settled, Unsettled, Branch}

-- a mark is taken away in one or two turns, and a goal in a turn that selects it
abbrev pub item_weight : Item → ℕ
item_weight (Goal t h) = 0
item_weight i = 2

-- how much there is to be done in all items
abbrev pub items_weight : List Item → ℕ
items_weight [] = 0
items_weight (i ∷ is) = item_weight i + items_weight is

-- a branch is settled first
abbrev pub phase_weight : Phase → ℕ
phase_weight Settled = 1
phase_weight (Unsettled p) = 2

-- the marks of all branches, and their settlings
abbrev pub weight : List Branch → ℕ
weight [] = 0
weight (b ∷ bs) = phase_weight b.phase + items_weight b.items + weight bs
