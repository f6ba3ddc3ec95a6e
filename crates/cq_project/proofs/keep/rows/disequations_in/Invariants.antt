use Rattle.std.proofs.Common.{◌≡◌, take}
use Rattle.spec_projection.specs.Projection.{disequations_of}
use Rattle.cq_project.proofs.keep.rows.disequations_in.Given as goal

abbrev pub invariant-rows : goal.invariant-rows
invariant-rows l = l.disequations.items ≡ disequations_of (take l.row-index l.rows)
