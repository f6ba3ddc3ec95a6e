-- What is found in a list by a test.
use Rattle.std.specs.Prelude.{◌≡◌, Bool, List, find, Option}
use Rattle.std.specs.Option.{option_map}
use Rattle.cq_predicates.specs.declared.table.builtins.Builtin.{Builtin}

-- what the first element that passes the test is of, if one does
pub record IsFirst {E : Type 0} (test : E → Bool) (value : E → Builtin) (es : List E) (r : Option Builtin) : Type 0 where
  pub found : r ≡ option_map value (find test es)
