use Rattle.spec_examples.proofs.Value.{value_row}
use Rattle.spec_examples.proofs.Above.{above_row}
use Rattle.spec_examples.proofs.Projected.{projected_row}
use Rattle.spec_examples.proofs.Delayed.{delayed_row}
use Rattle.spec_examples.proofs.Clashing.{clash_row}
use Rattle.spec_examples.proofs.Overflow.{overflow_row}
use Rattle.spec_examples.proofs.constraints.Goals as goal

pub returns : goal.returns
returns c = record { value = value_row; inequality = above_row; projection = projected_row; delayed = delayed_row; clash = clash_row; overflow = overflow_row }
