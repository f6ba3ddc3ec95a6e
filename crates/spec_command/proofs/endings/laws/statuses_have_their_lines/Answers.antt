use Rattle.spec_command.proofs.EndingsWhole.{lines}
use Rattle.spec_command.proofs.endings.laws.statuses_have_their_lines.Goals as goal

pub returns : goal.returns
returns c = lines
