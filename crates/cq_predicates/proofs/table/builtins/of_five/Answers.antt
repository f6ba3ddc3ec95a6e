use Rattle.std.proofs.Common.{refl}
use Rattle.cq_predicates.proofs.BuiltinsLemmas.{are_rows}
use Rattle.cq_predicates.proofs.table.builtins.of_five.Goals as goal

pub returns : goal.returns
returns c = are_rows 5 _ (refl, (refl, tt)) refl
