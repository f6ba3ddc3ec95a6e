use Rattle.spec_builtins.proofs.SetWhole.{set_whole}
use Rattle.spec_builtins.proofs.operators_are_set_whole.Goals as goal

pub returns : goal.returns
returns c = set_whole
