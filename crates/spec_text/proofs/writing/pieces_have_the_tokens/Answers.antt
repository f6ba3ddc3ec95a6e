use Rattle.spec_syntax.specs.Writing.{Alone}
use Rattle.spec_text.proofs.Same.{same}
use Rattle.spec_text.proofs.writing.pieces_have_the_tokens.Goals as goal

pub returns : goal.returns
returns c ops t = same ops Alone t
