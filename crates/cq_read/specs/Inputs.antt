-- Input that comes in pieces.
use Rattle.std.specs.Prelude.{ℕ, ◌≤◌, Bool, List, take, length}
use Rattle.spec_syntax.specs.Operators.{Ops}
use Rattle.spec_text.specs.Readings.{Read, Reads}
use Rattle.spec_text.specs.Decided.{IsClosed}

-- the bytes so far, the place where the next reading begins, and whether no more bytes come
pub record Input : Type 0 where
  pub bytes : List ℕ
  pub place : ℕ
  pub finished : Bool

-- the bytes decide nothing at the place, whatever the operators are
abbrev pub DecideNothing : List ℕ → ℕ → Type 0
DecideNothing bytes place = (ops : Ops) (r : Read) → Reads ops bytes place r → IsClosed r (length bytes) → ⊥

-- of the first so many bytes it is known that they decide nothing at the place, whatever the operators are
pub record IsTried (bytes : List ℕ) (place tried : ℕ) : Type 0 where
  pub fits : place ≤ length bytes
  pub within : tried ≤ length bytes
  pub undecided : place ≤ tried → (ops : Ops) (r : Read) → Reads ops (take tried bytes) place r → IsClosed r tried → ⊥
