use Rattle.std.proofs.Common.{◌≡◌, ◌+◌, ◌-◌, length}
use Rattle.cq_predicates.specs.Places.{splits_left}
use Rattle.cq_predicates.proofs.text.splits.Splits.first_from.Given as goal

abbrev pub invariant-loop-count : goal.invariant-loop-count
invariant-loop-count l = splits_left l.self l.count ≡ splits_left l.self l.from

abbrev pub decreases-loop-count : goal.decreases-loop-count
decreases-loop-count l = length l.self.characters.items + 1 - l.count
