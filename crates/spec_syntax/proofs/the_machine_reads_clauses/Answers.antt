use Rattle.spec_syntax.proofs.Runs.{clause_runs, run_parses, begun_runs, run_begins, neither_none, none_neither, refused_runs, run_refuses}
use Rattle.spec_syntax.proofs.the_machine_reads_clauses.Goals as goal

pub returns : goal.returns
returns c = record {
  clause = λ ops ts t. (clause_runs ops ts t, run_parses ops ts t);
  beginning = λ ops ts. (begun_runs ops ts, run_begins ops ts);
  neither = λ ops ts. (neither_none ops ts, none_neither ops ts);
  refused = λ ops ts tok. (refused_runs ops ts tok, run_refuses ops ts tok);
}
