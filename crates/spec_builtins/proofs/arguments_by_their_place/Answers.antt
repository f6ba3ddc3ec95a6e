use Rattle.spec_builtins.proofs.Rebuilt.{argument_found, argument_zero, argument_absent}
use Rattle.spec_builtins.proofs.arguments_by_their_place.Goals as goal

pub returns : goal.returns
returns c = record { found = argument_found; zero = argument_zero; past = argument_absent }
