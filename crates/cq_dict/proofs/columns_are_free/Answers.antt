use Rattle.cq_dict.proofs.Free.{free}
use Rattle.cq_dict.proofs.columns_are_free.Goals as goal

pub returns : goal.returns
returns c = λ roles t. free roles t
