use Rattle.std.proofs.Common.{◌≡◌, map, take}
use Rattle.spec_projection.specs.Substitution.{put_into}
use Rattle.cq_equations.specs.Rows.{equations_of}
use Rattle.cq_project.proofs.echelon.putting.put_into.Given as goal

abbrev pub invariant-rows : goal.invariant-rows
invariant-rows l = l.all.items ≡ map (put_into (equations_of l.equations)) (take l.row-index l.rows)
