use Rattle.std.proofs.Common.{take}
use Rattle.cq_equations.specs.Told.{numbers_of}
use Rattle.cq_elimination.proofs.Counting.{Best}
use Rattle.cq_elimination.proofs.fourier.next.next_of.Given as goal

abbrev pub invariant-variables : goal.invariant-variables
invariant-variables l = Best (numbers_of (take l.variable-index l.variables)) l.rows l.found
