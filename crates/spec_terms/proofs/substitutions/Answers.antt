use Rattle.spec_terms.proofs.Substitution.{apply-identity, apply-followed_by, apply_agree, agree_apply, occurs_from, occurs_into, size_image}
use Rattle.spec_terms.proofs.substitutions.Goals as goal

pub returns : goal.returns
returns g c = record {
  none = apply-identity;
  composed = apply-followed_by;
  agree = λ r s t. (agree_apply r s t, apply_agree r s t);
  occurrences = λ s w t. (occurs_from s w t, λ h. occurs_into s w h.0 t h.1 h.2);
  size = size_image;
}
