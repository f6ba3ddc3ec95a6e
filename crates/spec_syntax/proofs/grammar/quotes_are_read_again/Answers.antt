use Rattle.spec_syntax.proofs.Again.{opening_again, character_again, letter_again, hexadecimal_again, octal_again, doubled_again, line_again, closing_again}
use Rattle.spec_syntax.proofs.grammar.quotes_are_read_again.Goals as goal

pub returns-clause-opening : goal.returns-clause-opening
returns-clause-opening c = opening_again

pub returns-clause-character : goal.returns-clause-character
returns-clause-character c = character_again

pub returns-clause-letter : goal.returns-clause-letter
returns-clause-letter c = letter_again

pub returns-clause-hexadecimal : goal.returns-clause-hexadecimal
returns-clause-hexadecimal c = hexadecimal_again

pub returns-clause-octal : goal.returns-clause-octal
returns-clause-octal c = octal_again

pub returns-clause-doubled : goal.returns-clause-doubled
returns-clause-doubled c = doubled_again

pub returns-clause-line : goal.returns-clause-line
returns-clause-line c = line_again

pub returns-clause-closing : goal.returns-clause-closing
returns-clause-closing c = closing_again
