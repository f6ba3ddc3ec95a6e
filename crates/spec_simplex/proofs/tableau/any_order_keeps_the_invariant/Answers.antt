use Rattle.spec_simplex.proofs.Members.{invariant_there, told_last, alike}
use Rattle.spec_simplex.proofs.tableau.any_order_keeps_the_invariant.Goals as goal

pub returns : goal.returns
returns c = record {
  keeps = invariant_there;
  alike = alike;
  last = told_last;
}
