use Rattle.spec_search.proofs.TwoRuns.{left_out, taken, pruned}
use Rattle.spec_search.proofs.runs.two_runs.Goals as goal

pub returns : goal.returns
returns c = record { left_out = left_out; taken = taken; pruned = pruned }
