use Rattle.std.proofs.Common.{arith, refl}
use Rattle.cq_clauses.proofs.Indexed.{added_last}
use Rattle.cq_clauses.proofs.index.Index.add_last.Goals as goal

pub returns : goal.returns
returns c keys is = added_last c.args.self.now c.note.new.self keys c.args.key _ is c.in_ok-note.ensures refl (omega (arith, is.fits, c.if-number.false))
