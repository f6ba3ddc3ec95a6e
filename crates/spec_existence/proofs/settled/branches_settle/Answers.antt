use Rattle.spec_existence.proofs.SettledLemmas.{settles}
use Rattle.spec_existence.proofs.Bounds.{kept_bounded}
use Rattle.spec_existence.proofs.Forms.{kept_forms}
use Rattle.spec_existence.proofs.settled.branches_settle.Goals as goal

pub returns : goal.returns
returns c = record { outcome = settles; bounded = λ items st p b h i. kept_bounded items st p h b i; in_order = λ items st p b h k i. kept_forms items st p h k b i }
