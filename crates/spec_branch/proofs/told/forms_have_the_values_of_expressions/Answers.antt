use Rattle.spec_branch.proofs.FormValues.{form_value}
use Rattle.spec_branch.proofs.told.forms_have_the_values_of_expressions.Goals as goal

pub returns : goal.returns
returns c = λ fixed a h e f k. form_value a fixed h e f k
