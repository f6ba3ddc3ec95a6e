use Rattle.spec_command.proofs.EndingsWhole.{done_line}
use Rattle.spec_command.proofs.endings.laws.a_line_tells_the_least_value.Goals as goal

pub returns : goal.returns
returns c = done_line
