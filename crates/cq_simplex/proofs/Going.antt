-- What the exchanges of a search keep.
use Rattle.std.proofs.Common.{◌≡◌, ℕ, ◌≤◌}
use Rattle.cq_dict.specs.DictValue.{DictValue}
use Rattle.cq_simplex.specs.Dictionary.{IsReached}

pub record Going (asked n : ℕ) (old now : DictValue) : Type 0 where
  pub flags : now.restricted ≡ old.restricted
  pub saved : now.saved ≡ old.saved
  pub room : old.room ≤ now.room
  pub reached : IsReached old.restricted asked old.roles n now.roles
