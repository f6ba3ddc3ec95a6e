use Rattle.std.proofs.Common.{refl}
use Rattle.spec_terms.proofs.Orders.{compare_terms-total, compare_terms-equal, compare_terms-itself}
use Rattle.spec_terms.proofs.order.standard_order.Goals as goal

pub returns : goal.returns
returns c = record {
  total = compare_terms-total;
  same = λ t u. (compare_terms-equal t u, compare_terms-itself t u);
  variable_first = λ v q. refl;
  number_second = λ q a. refl;
  compound_last = λ a f ts. refl;
}
