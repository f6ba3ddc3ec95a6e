-- What entering an equation came to.
use Rattle.std.specs.Prelude.{List, ⊤}
use Rattle.cq_frac.specs.declared.VarId.{VarId}
use Rattle.cq_equations.specs.declared.entering.Entered.{Entered}
use Rattle.cq_equations.specs.declared.entering.Entered.TheVariants.{Joined, Contradiction}

abbrev pub IfJoined : Entered → (List VarId → Type 0) → Type 0
IfJoined (Joined fixed) P = P fixed.items
IfJoined Contradiction P = ⊤

abbrev pub IfContradiction : Entered → Type 0 → Type 0
IfContradiction (Joined fixed) P = ⊤
IfContradiction Contradiction P = P
