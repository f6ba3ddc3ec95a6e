use Rattle.std.proofs.Common.{◌≡◌, take}
use Rattle.spec_projection.specs.Interior.{equations_of}
use Rattle.cq_project.proofs.echelon.equations_in.Given as goal

abbrev pub invariant-rows : goal.invariant-rows
invariant-rows l = l.equations.items ≡ equations_of (take l.row-index l.rows)
