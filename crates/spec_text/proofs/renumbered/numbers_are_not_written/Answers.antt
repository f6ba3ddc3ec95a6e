use Rattle.spec_text.proofs.RenumberedNames.{written_same}
use Rattle.spec_text.proofs.renumbered.numbers_are_not_written.Goals as goal

pub returns : goal.returns
returns c = written_same
