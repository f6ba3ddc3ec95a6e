use Rattle.spec_search.proofs.Lighter.{lighter}
use Rattle.spec_search.proofs.runs.unmarked_turns_end.Goals as goal

pub returns : goal.returns
returns c = lighter
