use Rattle.std.proofs.Common.{refl}
use Rattle.cq_predicates.proofs.BuiltinsLemmas.{are_rows}
use Rattle.cq_predicates.proofs.table.builtins.of_six.Goals as goal

pub returns : goal.returns
returns c = are_rows 6 _ (refl, tt) refl
