use Rattle.cq_branch.proofs.Arguments.{argument_reads}
use Rattle.cq_branch.proofs.laws.arguments_read_as_themselves.Goals as goal

pub returns : goal.returns
returns c = λ texts w st id i k t r l e. argument_reads texts w st id i k t r l e
