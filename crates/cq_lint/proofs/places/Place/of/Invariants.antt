use Rattle.std.proofs.Common.{◌≡◌}
use Rattle.cq_lint.specs.Lines.{place_of}
use Rattle.cq_lint.proofs.places.Place.of.Given as goal

abbrev pub invariant-loop-i : goal.invariant-loop-i
invariant-loop-i l = l.place ≡ place_of l.text l.i
