use Rattle.spec_simplex.proofs.TableauWritten.{top}
use Rattle.spec_simplex.proofs.Extent.{greatest_is_supremum}
use Rattle.spec_simplex.proofs.More.{one_top, top_or_unbounded}
use Rattle.spec_simplex.proofs.Steps.{sup_of, unbounded_of, unbounded_free}
use Rattle.spec_simplex.proofs.tableau.greatest_values.Goals as goal

pub returns : goal.returns
returns c = record {
  row = top;
  once = one_top;
  not_unbounded = top_or_unbounded;
  supremum = greatest_is_supremum;
  row_supremum = sup_of;
  unlimited = unbounded_of;
  unrestricted = unbounded_free;
}
