use Rattle.spec_linear.proofs.Ordered.{IsForm-constant_form, IsForm-variable_form, IsForm-sum_form, IsForm-scaled_form, IsForm-negated_form, IsForm-difference_form, IsForm-substituted_form}
use Rattle.spec_linear.proofs.forms_are_in_order.Goals as goal

pub returns : goal.returns
returns c = record {
  constant = IsForm-constant_form;
  variable = IsForm-variable_form;
  sum = IsForm-sum_form;
  multiple = IsForm-scaled_form;
  negative = IsForm-negated_form;
  difference = IsForm-difference_form;
  substituted = IsForm-substituted_form;
}
