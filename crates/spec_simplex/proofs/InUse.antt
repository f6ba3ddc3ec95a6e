-- A feasible dictionary goes with itself.
use Rattle.std.specs.Prelude.{List}
use Rattle.spec_simplex.specs.LimitsDictionary.{Quantity, IsFeasible}
use Rattle.spec_simplex.specs.Overflow.{Moment, IsInUse, beside_feasible}

pub feasible_in_use : (m : Moment) (zeros columns : List Quantity) → IsFeasible m.list m.asked zeros columns → IsInUse m zeros columns
feasible_in_use m zeros columns f = beside_feasible (record {
  own = f.dictionary;
  all_zeros = zeros;
  live = columns;
  feasible = f;
  part = λ q h. h;
  rest = λ q. ((λ h. (h, f.dictionary.outside q h)), (λ h. h.0));
})
