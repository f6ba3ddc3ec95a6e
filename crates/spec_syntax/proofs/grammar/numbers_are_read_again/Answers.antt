use Rattle.spec_syntax.proofs.Again.{numeral_again, whole_again, fraction_again}
use Rattle.spec_syntax.proofs.grammar.numbers_are_read_again.Goals as goal

pub returns-clause-numeral : goal.returns-clause-numeral
returns-clause-numeral c = numeral_again

pub returns-clause-whole : goal.returns-clause-whole
returns-clause-whole c = whole_again

pub returns-clause-fraction : goal.returns-clause-fraction
returns-clause-fraction c = fraction_again
