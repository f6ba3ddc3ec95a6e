use Rattle.std.proofs.Common.{refl}
use Rattle.spec_builtins.proofs.NumberTexts.{codes_back}
use Rattle.spec_builtins.proofs.numbers_and_their_codes.Goals as goal

pub returns : goal.returns
returns c = record { apart = λ q x. refl; back = codes_back }
