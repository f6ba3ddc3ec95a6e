use Rattle.spec_syntax.proofs.Runs.{parses_once, nothing_behind}
use Rattle.spec_syntax.proofs.one_reading.Goals as goal

pub returns : goal.returns
returns c = record { one = parses_once; nothing_behind = nothing_behind }
