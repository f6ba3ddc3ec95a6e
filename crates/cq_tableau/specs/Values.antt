-- What a role tells of a quantity's value.
use Rattle.std.specs.Prelude.{◌≡◌, ℕ, List, [], ◌∷◌}
use Rattle.spec_numbers.specs.Rational.{ℚ, 0ℚ}
use Rattle.cq_frac.specs.declared.row.Entry.{Entry}
use Rattle.cq_frac.specs.Row.{Row}
use Rattle.cq_dict.specs.declared.table.Role.{Role}
use Rattle.cq_dict.specs.declared.table.Role.TheVariants.{Live, Dropped, Basic}
use Rattle.cq_dict.specs.Roles.{IsAt}

-- a row with a live entry, or a live column
pub data IsOpen (roles : List Role) (n : ℕ) : Type 0 where
  open_row : (own : Row) (m : Entry) (rest : List Entry) → IsAt roles n (Basic own) → own.live ≡ m ∷ rest → IsOpen roles n
  open_column : IsAt roles n Live → IsOpen roles n

-- a row that is a number, or a dropped column
pub data IsNumber (roles : List Role) (n : ℕ) (q : ℚ) : Type 0 where
  number_row : (own : Row) → IsAt roles n (Basic own) → own.live ≡ [] → q ≡ own.constant → IsNumber roles n q
  dropped_column : IsAt roles n Dropped → q ≡ 0ℚ → IsNumber roles n q
