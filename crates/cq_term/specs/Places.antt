-- Variables and their places in a list.
use Rattle.std.specs.Prelude.{ℕ, List, map, ◌==◌}
use Rattle.std.specs.List.{position_or_len}
use Rattle.cq_frac.specs.declared.VarId.{VarId}

-- the variables by number
abbrev pub numbers_of : List VarId → List ℕ
numbers_of vs = map (λ (v : VarId). v.0) vs

-- the place of a variable in a list, or the length
abbrev pub place_of : List VarId → ℕ → ℕ
place_of vs v = position_or_len (λ w. w == v) (numbers_of vs)
