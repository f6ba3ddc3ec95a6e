-- Counts that never fall, and answers that come only where one rose. A count is kept in a u64 by some
-- objects, so it may stop at the last value of that type.
use Rattle.std.specs.Prelude.{ℕ, ◌+◌, ◌-◌, ◌^◌, ◌≤◌, ◌≡◌, min, max, MatchResult}
use Rattle.std.specs.declared.result.Result.{Result}

-- a count after n more, as far as a u64 lets it rise
abbrev pub risen : ℕ → ℕ → ℕ
risen before n = min (before + n) (max before (2 ^ 64 - 1))

-- a count rose, or stands at its last value
abbrev pub Rose : ℕ → ℕ → Type 0
Rose before now = risen before 1 ≤ now

-- a count rose by more than n, or stands at its last value
abbrev pub RoseBeyond : ℕ → ℕ → ℕ → Type 0
RoseBeyond n before now = risen before (n + 1) ≤ now

-- a count rose by n, or stands at its last value
abbrev pub Counts : ℕ → ℕ → ℕ → Type 0
Counts n before now = (risen before n ≤ now) × (now ≤ before + n)

-- a call counts the bytes that it took, and none where it failed
abbrev pub CountsBytes : {E : Type 0} → ℕ → ℕ → Result ℕ E → Type 0
CountsBytes before now result = MatchResult result (λ n. Counts n before now) (λ _. now ≡ before)

-- a call failed only where the count of faults rose, which else stays
abbrev pub HasCause : {T E : Type 0} → ℕ → ℕ → Result T E → Type 0
HasCause before now result = MatchResult result (λ _. now ≡ before) (λ _. Rose before now)
