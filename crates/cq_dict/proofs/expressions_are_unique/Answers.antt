use Rattle.cq_dict.proofs.Free.{same_numbers}
use Rattle.cq_dict.proofs.expressions_are_unique.Goals as goal

pub returns : goal.returns
returns c = λ roles t value r s e f. same_numbers roles t value r s e f
