-- Calls that are counted, of which some are to fail.
use Rattle.std.specs.Prelude.{◌≡◌, ℕ, ◌+◌, ◌-◌, ◌^◌, min, List, Contains}
use Rattle.cq_outside.specs.declared.calls.Calls.{Calls}

-- the number of the next call, from 1
abbrev pub next_call : Calls → ℕ
next_call c = min (c.made + 1) (2 ^ 64 - 1)

-- the next call is to fail
abbrev pub NextFails : Calls → Type 0
NextFails c = Contains c.fails.items (next_call c)

-- no call is made yet, and those with these numbers are to fail
pub record AreToFail (numbers : List ℕ) (c : Calls) : Type 0 where
  pub told : c.fails.items ≡ numbers
  pub unused : c.made ≡ 0
  pub faultless : c.faults ≡ 0

-- one more call is made
pub record IsNext (old new : Calls) : Type 0 where
  pub same : new.fails.items ≡ old.fails.items
  pub made : new.made ≡ next_call old
