use Rattle.spec_transcript.proofs.StopsLemmas.{spent_goals}
use Rattle.spec_transcript.proofs.spent_goals_stop.Goals as goal

pub returns : goal.returns
returns c = spent_goals
