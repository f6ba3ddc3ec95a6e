use Rattle.spec_existence.proofs.ProgressLemmas.{goes_on}
use Rattle.spec_existence.proofs.progress.searches_go_on.Goals as goal

pub returns : goal.returns
returns c = goes_on
