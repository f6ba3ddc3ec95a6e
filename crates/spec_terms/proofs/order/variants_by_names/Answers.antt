use Rattle.spec_terms.proofs.NamedVariants.{named_variants, variants_unnamed}
use Rattle.spec_terms.proofs.order.variants_by_names.Goals as goal

pub returns : goal.returns
returns c = record { named = λ f t u. named_variants f t u; back = λ n f t u d. variants_unnamed n f d t u }
