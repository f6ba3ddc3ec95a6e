use Rattle.spec_simplex.proofs.Ends.{greatest_value, unlimited_value, free_value}
use Rattle.spec_simplex.proofs.ends_of_chains.Goals as goal

pub returns : goal.returns
returns c = record {
  greatest = λ size restricted d w f o. greatest_value size restricted d w f o;
  unlimited = λ size restricted d c w f u. unlimited_value size restricted d w f c u;
  free = λ size restricted d c w f u. free_value size restricted d w f c u;
}
