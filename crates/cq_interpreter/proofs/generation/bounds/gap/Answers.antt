use Rattle.std.proofs.Common.{◌*◌, ◌%◌, add-one}
use Rattle.spec_command.specs.Query.{gap}
use Rattle.cq_interpreter.proofs.generation.bounds.gap.Goals as goal

pub returns : goal.returns
unfolding gap
returns c = add-one ((c.args.place * c.args.place) % 7)
