use Rattle.spec_linear.proofs.Denominators.{extends, solvable_same}
use Rattle.spec_linear.proofs.Lists.{entails_same, fixed_same}
use Rattle.spec_linear.proofs.one_denominator_suffices.Goals as goal

pub returns : goal.returns
returns c = record {
  extend = extends;
  solvable = solvable_same;
  entails = entails_same;
  fixed = fixed_same;
}
