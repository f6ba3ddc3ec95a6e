use Rattle.cq_goals.proofs.Declared.{in_turn}
use Rattle.cq_goals.proofs.declarations.declarations.declarations_in_turn.Goals as goal

pub returns : goal.returns
returns c = in_turn
