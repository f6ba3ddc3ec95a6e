use Rattle.spec_syntax.proofs.Again.{name_again, symbols_again, sign_again}
use Rattle.spec_syntax.proofs.grammar.names_are_read_again.Goals as goal

pub returns-clause-letters : goal.returns-clause-letters
returns-clause-letters c = name_again

pub returns-clause-symbols : goal.returns-clause-symbols
returns-clause-symbols c = symbols_again

pub returns-clause-sign : goal.returns-clause-sign
returns-clause-sign c = sign_again
