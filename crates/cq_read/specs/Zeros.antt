-- Zeros in front of a numeral.
use Rattle.std.specs.Prelude.{ℕ, ◌+◌, Bool, ◌&&◌, List, drop}
use Rattle.std.specs.Char.{is_ascii_digit}
use Rattle.spec_syntax.specs.Characters.{begins, begins_with}

-- two zeros and a digit stand at a place
abbrev pub leads_with_zeros : List ℕ → ℕ → Bool
leads_with_zeros text at = begins_with 48 (drop at text) && begins_with 48 (drop (at + 1) text) && begins is_ascii_digit (drop (at + 2) text)
