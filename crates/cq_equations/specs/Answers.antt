-- What a constraint that was told became.
use Rattle.std.specs.Prelude.{ℕ, List, ⊤}
use Rattle.spec_numbers.specs.Rational.{ℚ}
use Rattle.cq_frac.specs.declared.VarId.{VarId}
use Rattle.cq_equations.specs.declared.store.Told.{Told}
use Rattle.cq_equations.specs.declared.store.Told.TheVariants.{Kept, Unsolvable}

-- a fact of the newly fixed variables, if it was kept
abbrev pub IfKept : Told → (List VarId → Type 0) → Type 0
IfKept (Kept fixed) P = P fixed.items
IfKept (Unsolvable cert) P = ⊤

-- a fact of the certificate, if it can't hold together with the told list
abbrev pub IfUnsolvable : Told → (List (ℕ × ℚ) → Type 0) → Type 0
IfUnsolvable (Kept fixed) P = ⊤
IfUnsolvable (Unsolvable cert) P = P cert
