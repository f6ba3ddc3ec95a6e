use Rattle.spec_syntax.proofs.Held.{next_in_quotes}
use Rattle.spec_syntax.proofs.grammar.quotes_hold_a_text.Goals as goal

pub returns : goal.returns
returns c = next_in_quotes
