-- What holds of every reading.
use Rattle.std.specs.Prelude.{ℕ, ◌<◌, ◌≤◌, List, length, ⊤}
use Rattle.spec_text.specs.Readings.{Read, Clause, Ended, Syntax}

-- Reading goes on past the place where it began and within the text, and not before the place of an error.
abbrev pub MovesOn : List ℕ → ℕ → Read → Type 0
MovesOn text at (Clause tree variables next) = (at < next) × (next ≤ length text)
MovesOn text at Ended = ⊤
MovesOn text at (Syntax error resume) = (at ≤ error) × (error ≤ resume) × (at < resume) × (resume ≤ length text)
