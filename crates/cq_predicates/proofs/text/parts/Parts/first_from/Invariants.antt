use Rattle.std.proofs.Common.{◌≡◌, ◌+◌, ◌-◌, length}
use Rattle.cq_predicates.specs.Places.{place, parts_left}
use Rattle.cq_predicates.proofs.text.parts.Parts.first_from.Given as goal

abbrev pub invariant-loop-before : goal.invariant-loop-before
invariant-loop-before l = parts_left l.self (place l.before l.low) ≡ parts_left l.self l.fn.from

abbrev pub decreases-loop-before : goal.decreases-loop-before
decreases-loop-before l = length l.self.characters.items + 1 - l.before
