use Rattle.std.proofs.Common.{◌≡◌, [], take}
use Rattle.spec_projection.specs.Projection.{disequations_of}
use Rattle.cq_project.proofs.has_no_disequation.Given as goal

abbrev pub invariant-told : goal.invariant-told
invariant-told l = disequations_of (take l.row-index l.told) ≡ []
