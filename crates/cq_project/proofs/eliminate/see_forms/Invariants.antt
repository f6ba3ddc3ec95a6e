use Rattle.std.proofs.Common.{take}
use Rattle.spec_projection.specs.Lists.{AreForms}
use Rattle.cq_project.proofs.eliminate.see_forms.Given as goal

abbrev pub invariant-rows : goal.invariant-rows
invariant-rows l = AreForms (take l.row-index l.rows)
