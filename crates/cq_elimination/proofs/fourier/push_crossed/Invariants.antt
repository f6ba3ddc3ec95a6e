use Rattle.std.proofs.Common.{◌≡◌, ◌++◌, take}
use Rattle.cq_elimination.specs.FourierSides.{crossed}
use Rattle.cq_elimination.proofs.fourier.push_crossed.Given as goal

abbrev pub invariant-lower : goal.invariant-lower
invariant-lower l = l.rows.items ≡ l.fn.rows.items ++ crossed (take l.bound-index l.lower) l.upper
