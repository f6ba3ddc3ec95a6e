use Rattle.spec_simplex.proofs.Extent.{entails_if_refused, not_entailed}
use Rattle.spec_simplex.proofs.Steps.{entails_zero, not_entails_zero}
use Rattle.spec_simplex.proofs.tableau.entailed_constraints.Goals as goal

pub returns : goal.returns
returns c = record {
  by_opposite = entails_if_refused;
  denied = not_entailed;
  nothing = entails_zero;
  something = not_entails_zero;
}
