-- One product of a form, added to what came before.
use Rattle.std.specs.Prelude.{List}
use Rattle.spec_numbers.specs.Rational.{ℚ}
use Rattle.cq_frac.specs.declared.Operation.{Operation}
use Rattle.cq_frac.specs.declared.Pair.{Pair}
use Rattle.cq_frac.specs.Refused.{Refuses, IsRefused}
use Rattle.cq_frac.specs.declared.row.Entry.{Entry}
use Rattle.cq_frac.specs.declared.row.Joining.TheVariants.{Plus}
use Rattle.cq_frac.specs.Row.{Row}
use Rattle.cq_frac.specs.Numbers.{IsJoined, JoinPair}
use Rattle.cq_dict.specs.declared.table.Role.{Role}
use Rattle.cq_dict.specs.Roles.{Expresses}

-- r is the sum with the factor times the quantity's row, and no operation of that is refused
pub record AddsProduct (roles : List Role) (sum : Row) (m : Entry) (r : Row) : Type 0 where
  pub own : Row
  pub expresses : Expresses roles (λ x. x m.quantity) own
  pub joined : IsJoined sum Plus m.factor own r
  pub accepted : (o : Operation) (a b : ℚ) → JoinPair sum Plus m.factor own o a b → Refuses o a b → ⊥

-- an operation of that is refused
pub record RefusesProduct (roles : List Role) (sum : Row) (m : Entry) (pair : Pair) : Type 0 where
  pub own : Row
  pub expresses : Expresses roles (λ x. x m.quantity) own
  pub made : JoinPair sum Plus m.factor own pair.operation pair.left pair.right
  pub refused : IsRefused pair
