use Rattle.cq_branch.proofs.Beginning.{begins}
use Rattle.cq_branch.proofs.laws.queries_begin_where_nothing_is_known.Goals as goal

pub returns : goal.returns
returns c = λ texts w k. begins texts w k
