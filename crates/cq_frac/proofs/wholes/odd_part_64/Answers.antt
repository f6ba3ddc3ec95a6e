use Rattle.std.specs.Int.{w64}
use Rattle.std.proofs.lemmas.Nat.Bits.{bit_at-trailing_zeros}
use Rattle.cq_frac.proofs.Halves.{odd_part-rest}
use Rattle.cq_frac.proofs.wholes.odd_part_64.Goals as goal

pub returns-clause-odd : goal.returns-clause-odd
returns-clause-odd c = (bit_at-trailing_zeros w64 c.args.n c.requires c.ranges.n.fits).1

pub returns-clause-rest : goal.returns-clause-rest
returns-clause-rest c = odd_part-rest w64 c.args.n c.requires c.ranges.n.fits
