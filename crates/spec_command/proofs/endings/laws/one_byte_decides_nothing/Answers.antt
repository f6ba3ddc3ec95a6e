use Rattle.spec_command.proofs.Undecided.{nothing_written}
use Rattle.spec_command.proofs.endings.laws.one_byte_decides_nothing.Goals as goal

pub returns : goal.returns
returns c = nothing_written
