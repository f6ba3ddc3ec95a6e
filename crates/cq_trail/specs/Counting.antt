-- Marks of which the newest are only counted.
use Rattle.std.specs.Prelude.{ℕ, ◌-◌, ◌^◌, List, ◌++◌, length}
use Rattle.std.proofs.Math.ListN.{replicate}

-- what this many marks keep: the oldest ones these values, and all others this value
abbrev pub counted : {V : Type 0} → List V → ℕ → V → List V
counted own n now = own ++ replicate (n - length own) now

-- how many marks can be counted beside so many
abbrev pub countable : ℕ → ℕ
countable n = 2 ^ 64 - 1 - n
