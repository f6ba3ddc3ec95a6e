use Rattle.spec_branch.proofs.SameArithmetic.{same_value}
use Rattle.spec_branch.proofs.told.arithmetic_gives_the_same_values.Goals as goal

pub returns : goal.returns
returns c = λ a e q h k. same_value a e q h k
