use Rattle.std.proofs.Common.{◌≡◌, ℕ, take, false}
use Rattle.std.specs.Prelude.{Contains}
use Rattle.cq_attr.specs.Attributes.{is_numeric}
use Rattle.cq_term.specs.Places.{numbers_of}
use Rattle.cq_branch.proofs.begin.entering.is_free.Given as goal

abbrev pub invariant-loop-variable : goal.invariant-loop-variable
invariant-loop-variable l = (v : ℕ) → Contains (numbers_of (take l.variable-index l.newly)) v → is_numeric l.attrs.now v ≡ false
