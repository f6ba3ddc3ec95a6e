use Rattle.cq_resolve.proofs.Predicates.{kind-read, clauses-read, clauses-known}
use Rattle.cq_resolve.proofs.Changes.{clauses-later}
use Rattle.cq_resolve.proofs.program.laws.calls_read_the_database.Goals as goal

pub returns : goal.returns
returns c = record { kind = kind-read; clauses = clauses-read; known = clauses-known; later = clauses-later }
