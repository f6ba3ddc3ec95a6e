-- A variable where it stands in a text.
use Rattle.std.specs.Prelude.{ℕ}
use Rattle.spec_numbers.specs.Texts.{Text}

-- the place of its first byte, and its name
pub record Named : Type 0 where
  pub at : ℕ
  pub name : Text
