use Rattle.spec_simplex.proofs.Feasible.{free_exchange, level_exchange, unlimited_exchange, free_elimination, level_elimination, dropping, restoring, restricted_row}
use Rattle.spec_simplex.proofs.tableau.exchanges_stay_feasible.Goals as goal

pub returns : goal.returns
returns c = record {
  free = λ d e w x q c r f n. free_exchange d e w x q c r f n;
  unlimited = λ d e w x q c r f o p low a. unlimited_exchange d e w x q c r f o p low a;
  level = λ d e w x q c r f a k n. level_exchange d e w x q c r f a k n;
  free_elimination = λ d e w x q c r f n. free_elimination d e w x q c r f n;
  level_elimination = λ d e w x q c r f a k n. level_elimination d e w x q c r f a k n;
  dropping = dropping;
  restoring = restoring;
  row = λ d e r w x f q h a z n. restricted_row d e w x r q h a f z n;
}
