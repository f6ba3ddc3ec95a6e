use Rattle.spec_simplex.proofs.Join.{no_new_zero}
use Rattle.spec_simplex.proofs.More.{nothing_joins_weak}
use Rattle.spec_simplex.proofs.Steps.{joined_weak, joined_strict, sound_weak, sound_strict}
use Rattle.spec_simplex.proofs.tableau.inequalities_join.Goals as goal

pub returns : goal.returns
returns c = record {
  still = no_new_zero;
  weakly = λ d e l i q h r w f u. joined_weak d e l i q h r w f u;
  strictly = λ d e l i q h r w f u. joined_strict d e l i q h r w f u;
  weakly_sound = sound_weak;
  strictly_sound = sound_strict;
  nothing = nothing_joins_weak;
}
