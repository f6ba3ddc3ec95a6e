use Rattle.spec_syntax.proofs.Tiles.{stands}
use Rattle.spec_syntax.proofs.grammar.tokens_tile_the_text.Goals as goal

pub returns : goal.returns
returns c = stands
