use Rattle.spec_command.proofs.GeneratingWhole.{whole_line}
use Rattle.spec_command.proofs.generating.the_line_tells_the_least_value.Goals as goal

pub returns : goal.returns
returns c = whole_line
