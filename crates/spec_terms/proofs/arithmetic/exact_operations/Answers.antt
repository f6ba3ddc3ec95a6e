use Rattle.std.proofs.Common.{◌∙◌}
use Rattle.spec_terms.proofs.Results.{taken, refused, unless_zero, no_divisor}
use Rattle.spec_terms.proofs.arithmetic.exact_operations.Goals as goal

pub returns : goal.returns
returns c = record {
  taken = λ o p q n h. unless_zero o p q n ∙ taken o p q h;
  refused = λ o p q n h. unless_zero o p q n ∙ refused o p q h;
  no_divisor = no_divisor;
}
