-- The open choices of a search over a world with a mark for each.
use Rattle.std.specs.Prelude.{◌≡◌, ℕ, ◌-◌, List, length, reverse, drop}
use Rattle.std.specs.List.{zip}

-- the last ones, so many of them or all: of choices, which come with the newest first, those below a height
abbrev pub last : {A : Type 0} → ℕ → List A → List A
last k xs = drop (length xs - k) xs

-- the world has as many marks as there are choices: the oldest one's is the oldest mark
abbrev pub AreMarked : {V C : Type 0} → List V → List C → Type 0
AreMarked saved choices = length saved ≡ length choices

-- what each choice leaves to try, behind the value of the world that it goes back to; the saved values come with the
-- oldest first
abbrev pub open_choices : {V C : Type 0} → List V → List C → List (V × C)
open_choices saved choices = zip (reverse saved) choices
