use Rattle.std.proofs.Common.{[], ◌∷◌, ap, ◌∙◌}
use Rattle.spec_simplex.specs.Tableau.{numbers}
use Rattle.spec_simplex.proofs.More.{restored_equations}
use Rattle.spec_simplex.proofs.Steps.{sound_dropped, sound_more, one_of}
use Rattle.spec_simplex.proofs.tableau.dropped_columns.Goals as goal

pub returns : goal.returns
returns c = record {
  drop = λ d e l c i r w f z. sound_dropped d e (c ∷ []) [] r l i w f (λ k s v h. ap (numbers d v) (one_of c k s) ∙ z v h) (λ k s. absurd s);
  more = λ d e l c p r i k w f z more h o. sound_more d e p r k l i w f c z more h o;
  restore = restored_equations;
}
