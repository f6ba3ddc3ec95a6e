use Rattle.spec_terms.proofs.Renamings.{variants_renamed, instance_itself, instance_chain}
use Rattle.spec_terms.proofs.order.variants.Goals as goal

pub returns : goal.returns
returns g c = record {
  renamed = variants_renamed;
  itself = λ t. (instance_itself t, instance_itself t);
  turned = λ t u h. (h.1, h.0);
  chained = λ t u w h k. (instance_chain t u w h.0 k.0, instance_chain w u t k.1 h.1);
}
