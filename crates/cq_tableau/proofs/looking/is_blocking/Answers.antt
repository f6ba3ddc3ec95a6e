use Rattle.std.proofs.Common.{arith}
use Rattle.cq_tableau.proofs.Blocking.{past_leaves}
use Rattle.cq_tableau.proofs.looking.is_blocking.Goals as goal

pub returns-then-q-count : goal.returns-then-q-count
returns-then-q-count c = past_leaves c.args.dict.now.roles c.args.dict.now.restricted c.args.c c.args.q (omega (arith, c.if-q-count.true, c.count.ensures.value))
