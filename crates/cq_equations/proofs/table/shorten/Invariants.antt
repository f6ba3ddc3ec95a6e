-- The names that are to stay are those of the names so far.
use Rattle.std.proofs.Common.{◌≡◌, take, length}
use Rattle.cq_equations.specs.Numbered.{numbers_from}
use Rattle.cq_equations.proofs.table.shorten.Given as goal

abbrev pub invariant-loop-names : goal.invariant-loop-names
invariant-loop-names l = record {
  names : take l.count l.names.items ≡ take l.count l.fn.names.items;
  numbers : l.numbers.entries ≡ numbers_from 0 l.names.items;
}

abbrev pub decreases-loop-names : goal.decreases-loop-names
decreases-loop-names l = length l.names.items
