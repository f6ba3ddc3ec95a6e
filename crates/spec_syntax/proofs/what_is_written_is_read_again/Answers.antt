use Rattle.spec_syntax.proofs.ReadBack.{round_trip}
use Rattle.spec_syntax.proofs.what_is_written_is_read_again.Goals as goal

pub returns : goal.returns
returns c ops t are = round_trip ops are t
