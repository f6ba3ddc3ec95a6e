use Rattle.spec_text.proofs.Later.{counted_on}
use Rattle.spec_text.proofs.ReadingCounted.{counted_back}
use Rattle.spec_text.proofs.reading.variables_may_be_counted_on.Goals as goal

pub returns : goal.returns
returns c = record { on = λ ops text at n r reads. counted_on n ops text at r reads; back = counted_back }
