use Rattle.cq_resolve.proofs.Excluded.{excluded}
use Rattle.cq_resolve.proofs.program.excluded_clauses_have_no_unifier.Goals as goal

pub returns : goal.returns
returns c = excluded
