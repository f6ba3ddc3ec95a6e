use Rattle.std.proofs.Common.{refl, pos}
use Rattle.spec_numbers.specs.Gcd.{gcd}
use Rattle.spec_numbers.specs.Rational.{int_ℚ, ratio, ◌+ℚ◌, ◌*ℚ◌, neg_ℚ, inv_ℚ}
use Rattle.spec_numbers.proofs.RationalLemmas.{cross_same}
use Rattle.spec_points.specs.Bounds.{Between, OnlyAbove, OnlyBelow, tried, whole}
use Rattle.spec_points.proofs.values_that_are_tried.Goals as goal

pub returns : goal.returns
unfolding int_ℚ ratio gcd ◌+ℚ◌ ◌*ℚ◌ neg_ℚ inv_ℚ
returns c = record {
  above = cross_same (tried (OnlyAbove (whole 5)) 0) (whole 6) refl;
  below = cross_same (tried (OnlyBelow (whole 5)) 0) (whole 4) refl;
  further_below = cross_same (tried (OnlyBelow (whole 5)) 1) (whole 3) refl;
  middle = cross_same (tried (Between (whole 0) (whole 1)) 0) (ratio (pos 1) 2) refl;
  third = cross_same (tried (Between (whole 0) (whole 1)) 1) (ratio (pos 1) 3) refl;
  centre = cross_same (tried (Between (whole 1) (whole 9)) 0) (whole 5) refl;
  anywhere = refl;
  further = refl;
}
