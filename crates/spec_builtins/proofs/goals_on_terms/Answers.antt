use Rattle.std.proofs.Common.{refl}
use Rattle.spec_numbers.specs.Rational.{int_ℚ, ratio}
use Rattle.spec_numbers.specs.Gcd.{gcd}
use Rattle.spec_builtins.proofs.Arities.{too_many}
use Rattle.spec_builtins.proofs.goals_on_terms.Goals as goal

pub returns : goal.returns
unfolding int_ℚ ratio gcd
returns c = record { built = refl; atom = refl; number = refl; too_many = too_many; known = refl; argument = refl; no_argument = refl; argument_0 = refl; taken_apart = refl; put_together = refl; before = refl; after = refl }
