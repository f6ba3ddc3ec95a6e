use Rattle.cq_clauses.proofs.clauses.Clauses.step.Goals as goal

pub next_matching-walk-requires : goal.next_matching-walk-requires
next_matching-walk-requires g c = c.requires.taken (c.in_ok-clause.clause, c.in_ok-clause.rest) c.in_ok-clause.was
