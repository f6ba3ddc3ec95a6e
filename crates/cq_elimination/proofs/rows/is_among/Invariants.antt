use Rattle.std.proofs.Common.{take}
use Rattle.spec_linear.specs.Solution.{Has}
use Rattle.cq_elimination.proofs.rows.is_among.Given as goal

abbrev pub invariant-forms : goal.invariant-forms
invariant-forms l = Has l.form (take l.other-index l.forms) → ⊥
