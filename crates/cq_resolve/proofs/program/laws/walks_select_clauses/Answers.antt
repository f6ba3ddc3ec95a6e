use Rattle.cq_resolve.proofs.Selection.{selected}
use Rattle.cq_resolve.proofs.program.laws.walks_select_clauses.Goals as goal

pub returns : goal.returns
returns c = selected
