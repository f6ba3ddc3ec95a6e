-- What is known of all texts, and of the clauses of a text so far.
use Rattle.std.specs.Prelude.{List, [], Option, None}
use Rattle.spec_builtins.specs.Built.{Indicator}

-- the predicates that have clauses or are declared dynamic, and those whose clauses may stand apart, each once
pub record Knowledge : Type 0 where
  pub defined : List Indicator
  pub scattered : List Indicator

abbrev pub nothing_known : Knowledge
nothing_known = record { defined = []; scattered = [] }

-- the predicates of the clauses so far, each once, and that of the last one
pub record Heads : Type 0 where
  pub predicates : List Indicator
  pub last : Option Indicator

abbrev pub nothing_passed : Heads
nothing_passed = record { predicates = []; last = None }
