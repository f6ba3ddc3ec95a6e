use Rattle.spec_search.proofs.Changed.{clauses_then, others_then, clauses_left}
use Rattle.spec_search.proofs.clauses_are_added_and_removed.Goals as goal

pub returns : goal.returns
returns c = record { added = clauses_then; others = others_then; removed = clauses_left }
