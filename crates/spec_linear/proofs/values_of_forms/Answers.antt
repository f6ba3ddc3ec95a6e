use Rattle.spec_linear.proofs.Values.{value_at-constant_form, value_at-variable_form, value_at-sum_form, value_at-scaled_form, value_at-negated_form, value_at-difference_form, value_at-substituted_form}
use Rattle.spec_linear.proofs.values_of_forms.Goals as goal

pub returns : goal.returns
returns c = record {
  constant = value_at-constant_form;
  variable = value_at-variable_form;
  sum = value_at-sum_form;
  multiple = value_at-scaled_form;
  negative = value_at-negated_form;
  difference = value_at-difference_form;
  substituted = value_at-substituted_form;
}
