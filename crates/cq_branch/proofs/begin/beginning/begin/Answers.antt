use Rattle.std.proofs.Common.{vec_len, arith}
use Rattle.cq_settle.proofs.Idle.{empty_list}
use Rattle.cq_branch.proofs.begin.beginning.begin.Goals as goal

pub begin_untold-requires-clause-none : goal.begin_untold-requires-clause-none
begin_untold-requires-clause-none c =
    empty_list c.args.told.items (vec_len c.args.told) c.is_empty.result (omega (arith, c.args.told.ok.0)) c.is_empty.ensures c.if-is_empty.true
