use Rattle.std.proofs.Common.{◌≡◌, take, map}
use Rattle.spec_projection.specs.Lists.{AreForms}
use Rattle.cq_elimination.specs.Scaling.{canonical_of}
use Rattle.cq_elimination.proofs.rows.scaled_forms.Given as goal

abbrev pub invariant-rows : goal.invariant-rows
invariant-rows l = (l.forms.items ≡ map canonical_of (take l.row-index l.rows)) × AreForms (take l.row-index l.rows)
