-- What choices stand for: the branches of a search that wait for it to come back.
use Rattle.std.specs.Prelude.{◌≡◌, ℕ, ◌+◌, List, [], ◌∷◌, ◌++◌, length}
use Rattle.cq_control.specs.Open.{last}

-- the branches of all choices, those of the newest first; what a choice stands for may depend on the older choices
abbrev pub waiting : {V C B : Type 0} → (List (V × C) → V → C → List B) → List (V × C) → List B
waiting branches [] = []
waiting branches (c ∷ older) = branches older c.0 c.1 ++ waiting branches older

-- each choice stands for as many branches as its size says
abbrev pub StandFor : {V C B : Type 0} → (C → ℕ) → (List (V × C) → V → C → List B) → Type 0
StandFor {V} {C} size branches = (older : List (V × C)) (value : V) (content : C) → length (branches older value content) ≡ size content

abbrev pub total : {V C : Type 0} → (C → ℕ) → List (V × C) → ℕ
total size [] = 0
total size (c ∷ older) = size c.1 + total size older

-- how many branches the choices below a height stand for
abbrev pub branches_below : {V C : Type 0} → (C → ℕ) → List (V × C) → ℕ → ℕ
branches_below size choices height = total size (last height choices)
