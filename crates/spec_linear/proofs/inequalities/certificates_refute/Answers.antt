use Rattle.spec_linear.proofs.Refutation.{refuted}
use Rattle.spec_linear.proofs.inequalities.certificates_refute.Goals as goal

pub returns : goal.returns
returns c = refuted
