use Rattle.std.specs.Int.{w128}
use Rattle.std.proofs.lemmas.Nat.Bits.{bit_at-trailing_zeros}
use Rattle.cq_frac.proofs.Halves.{odd_part-rest}
use Rattle.cq_frac.proofs.wholes.odd_part.Goals as goal

pub returns-clause-odd : goal.returns-clause-odd
returns-clause-odd c = (bit_at-trailing_zeros w128 c.args.n c.requires c.ranges.n.fits).1

pub returns-clause-rest : goal.returns-clause-rest
returns-clause-rest c = odd_part-rest w128 c.args.n c.requires c.ranges.n.fits
