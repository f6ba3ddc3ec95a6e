use Rattle.std.proofs.Common.{[]}
use Rattle.spec_simplex.proofs.Join.{no_new_zero_between}
use Rattle.spec_simplex.proofs.More.{swapped, nothing_joins}
use Rattle.spec_simplex.proofs.Steps.{sound_zero, joined_zero}
use Rattle.spec_simplex.proofs.tableau.equations_join.Goals as goal

pub returns : goal.returns
returns c = record {
  still = no_new_zero_between;
  sound = λ d e l q r w f i. sound_zero d e l q [] r (λ z s. absurd s) i.written w f i;
  between = λ d e l q p r o w f i up down n. joined_zero d e l q p r o i.sound.written w f i up down n;
  flat = swapped;
  nothing = nothing_joins;
}
