use Rattle.spec_linear.proofs.NoVariable.{number_everywhere, same_number_everywhere}
use Rattle.spec_linear.proofs.inequalities.forms_without_variables_are_numbers.Goals as goal

pub returns : goal.returns
returns c = record {
  number = number_everywhere;
  back = same_number_everywhere;
}
