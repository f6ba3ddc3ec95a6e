use Rattle.spec_terms.proofs.Rounded.{divided_back, divided_down, remainder_smaller, remainder_not_negative, remainder_not_positive, over_positive, over_negative}
use Rattle.spec_terms.proofs.arithmetic.quotients_of_whole_numbers.Goals as goal

pub returns : goal.returns
returns c = record {
  divided = divided_back;
  smaller = remainder_smaller;
  not_negative = remainder_not_negative;
  not_positive = remainder_not_positive;
  divided_down = divided_down;
  over_positive = over_positive;
  over_negative = over_negative;
}
