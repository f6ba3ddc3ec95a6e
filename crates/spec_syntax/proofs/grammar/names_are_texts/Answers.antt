use Rattle.spec_syntax.proofs.Names.{word_utf8}
use Rattle.spec_syntax.proofs.grammar.names_are_texts.Goals as goal

pub returns : goal.returns
returns c = word_utf8
