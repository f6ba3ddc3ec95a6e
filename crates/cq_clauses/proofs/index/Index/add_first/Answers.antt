use Rattle.std.proofs.Common.{arith}
use Rattle.cq_clauses.proofs.Indexed.{added_first}
use Rattle.cq_clauses.proofs.index.Index.add_first.Goals as goal

pub returns : goal.returns
returns c keys is = added_first c.args.self.now c.note.new.self keys c.args.key _ is c.in_ok-note.ensures (omega (arith, c.if-self-eq0.false))
