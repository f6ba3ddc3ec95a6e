use Rattle.spec_simplex.proofs.Told.{newly, not_newly, none_newly}
use Rattle.spec_simplex.proofs.tableau.newly_fixed_variables.Goals as goal

pub returns : goal.returns
returns c = record {
  fixes = λ d e l c i j x b. newly d e l c i j x b;
  stays = λ d e l c i j x s n. not_newly d e l c i j x s n;
  none = λ d e l c i j x w p n. none_newly d e l c i j x w p n;
}
