use Rattle.spec_linear.proofs.Lists.{fixed_once, fixed_is_entailed, told_once}
use Rattle.spec_linear.proofs.fixed_values.Goals as goal

pub returns : goal.returns
returns c = record {
  once = fixed_once;
  equation = fixed_is_entailed;
  told = told_once;
}
