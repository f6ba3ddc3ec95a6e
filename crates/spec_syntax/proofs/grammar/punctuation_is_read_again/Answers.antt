use Rattle.spec_syntax.proofs.Again.{punctuation_again, end_again}
use Rattle.spec_syntax.proofs.grammar.punctuation_is_read_again.Goals as goal

pub returns-clause-punctuation : goal.returns-clause-punctuation
returns-clause-punctuation c = punctuation_again

pub returns-clause-end : goal.returns-clause-end
returns-clause-end c = end_again
