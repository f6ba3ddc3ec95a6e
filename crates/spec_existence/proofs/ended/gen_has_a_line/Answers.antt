use Rattle.spec_existence.proofs.GenLine.{gen_line_exists}
use Rattle.spec_existence.proofs.ended.gen_has_a_line.Goals as goal

pub returns : goal.returns
returns c = gen_line_exists
