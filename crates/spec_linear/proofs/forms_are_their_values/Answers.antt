use Rattle.spec_linear.proofs.Ordered.{forms_same}
use Rattle.spec_linear.proofs.forms_are_their_values.Goals as goal

pub returns : goal.returns
returns c = forms_same
