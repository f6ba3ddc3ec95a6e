use Rattle.spec_text.proofs.Start.{standard_bare}
use Rattle.spec_text.proofs.writing.names_at_the_start_are_bare.Goals as goal

pub returns : goal.returns
returns c = standard_bare
