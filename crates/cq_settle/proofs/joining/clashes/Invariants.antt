use Rattle.std.proofs.Common.{take}
use Rattle.std.specs.Prelude.{All}
use Rattle.cq_settle.specs.Worlds.{now_of}
use Rattle.cq_settle.specs.Steps.{ClashesAt}
use Rattle.cq_settle.proofs.joining.clashes.Given as goal

abbrev pub invariant-loop-variable : goal.invariant-loop-variable
invariant-loop-variable l = All (λ v. ClashesAt (now_of l.world) v.0 → ⊥) (take l.variable-index l.newly)
