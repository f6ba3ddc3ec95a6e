use Rattle.spec_linear.proofs.Existence.{solved_form_or_none}
use Rattle.spec_linear.proofs.echelon.equations_have_a_solved_form.Goals as goal

pub returns : goal.returns
returns c = solved_form_or_none
