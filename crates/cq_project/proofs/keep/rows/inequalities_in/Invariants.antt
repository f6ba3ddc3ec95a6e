use Rattle.std.proofs.Common.{◌≡◌, take}
use Rattle.spec_projection.specs.Projection.{inequalities_of}
use Rattle.cq_project.proofs.keep.rows.inequalities_in.Given as goal

abbrev pub invariant-rows : goal.invariant-rows
invariant-rows l = l.inequalities.items ≡ inequalities_of (take l.row-index l.rows)
