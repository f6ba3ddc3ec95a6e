-- Columns dropped together.
use Rattle.std.specs.Prelude.{◌≡◌, ◌⊎◌, ℕ, List, [], ◌∷◌, length, true}
use Rattle.spec_linear.specs.Solution.{Has}
use Rattle.cq_frac.specs.declared.row.Entry.{Entry}
use Rattle.cq_dict.specs.declared.table.Role.{Role}
use Rattle.cq_dict.specs.Roles.{AreOverColumns, is_live, is_dropped}
use Rattle.cq_dict.specs.Dict.{SameMeaning}

-- the quantities of the entries
abbrev pub quantities : List Entry → List ℕ
quantities [] = []
quantities (m ∷ s) = m.quantity ∷ quantities s

-- these columns are dropped, and no other quantity has become or ceased to be a dropped one
pub record DropsEach (old : List Role) (columns : List ℕ) (new : List Role) : Type 0 where
  pub table : AreOverColumns new
  pub size : length new ≡ length old
  pub same : SameMeaning old new
  pub each : (c : ℕ) → Has c columns → is_dropped new c ≡ true
  pub still : (c : ℕ) → is_dropped old c ≡ true → is_dropped new c ≡ true
  pub only : (c : ℕ) → is_dropped new c ≡ true → Has c columns ⊎ (is_dropped old c ≡ true)
  pub live : (c : ℕ) → is_live old c ≡ true → (is_live new c ≡ true) ⊎ (is_dropped new c ≡ true)
