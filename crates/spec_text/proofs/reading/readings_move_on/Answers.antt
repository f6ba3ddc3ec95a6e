use Rattle.spec_text.proofs.Onward.{moves_on}
use Rattle.spec_text.proofs.reading.readings_move_on.Goals as goal

pub returns : goal.returns
returns c = moves_on
