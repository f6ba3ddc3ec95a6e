use Rattle.spec_copies.proofs.Unkept.{none_kept}
use Rattle.spec_copies.proofs.nothing_is_kept_without_disequations.Goals as goal

pub returns : goal.returns
returns c = none_kept
