use Rattle.spec_command.proofs.Told.{right, whole, each}
use Rattle.spec_command.proofs.generating.the_constraints_are_told.Goals as goal

pub returns : goal.returns
returns c = record { right = right; whole = whole; each = each }
