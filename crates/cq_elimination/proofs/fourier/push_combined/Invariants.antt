use Rattle.std.proofs.Common.{◌≡◌, ◌++◌, take}
use Rattle.std.specs.Prelude.{map}
use Rattle.cq_elimination.specs.FourierSides.{between}
use Rattle.cq_elimination.proofs.fourier.push_combined.Given as goal

abbrev pub invariant-upper : goal.invariant-upper
invariant-upper l = l.rows.items ≡ l.fn.rows.items ++ map (between l.lower) (take l.bound-index l.upper)
