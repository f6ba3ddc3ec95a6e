use Rattle.spec_points.proofs.Sampled.{above_five, apart_first, apart_second}
use Rattle.spec_points.proofs.Worked.{wedge_first, wedge_second, positive_first, positive_second}
use Rattle.spec_points.proofs.KeptPoint.{kept_first, kept_second, kept_third, loan_first, loan_second, loan_third}
use Rattle.spec_points.proofs.small_points.Goals as goal

pub returns : goal.returns
returns c = record {
  above = above_five;
  first = apart_first;
  second = apart_second;
  wedge_first = wedge_first;
  wedge_second = wedge_second;
  positive_first = positive_first;
  positive_second = positive_second;
  kept_first = kept_first;
  kept_second = kept_second;
  kept_third = kept_third;
  loan_first = loan_first;
  loan_second = loan_second;
  loan_third = loan_third;
}
