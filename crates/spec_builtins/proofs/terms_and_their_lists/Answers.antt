use Rattle.spec_builtins.proofs.Rebuilt.{list_back}
use Rattle.spec_builtins.proofs.terms_and_their_lists.Goals as goal

pub returns : goal.returns
returns c = list_back
