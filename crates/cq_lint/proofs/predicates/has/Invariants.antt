use Rattle.std.proofs.Common.{◌≡◌, false, take}
use Rattle.std.specs.List.{list_any}
use Rattle.spec_builtins.specs.Built.{same_indicator}
use Rattle.cq_lint.proofs.predicates.has.Given as goal

abbrev pub invariant-loop-other : goal.invariant-loop-other
invariant-loop-other l = list_any (same_indicator l.predicate) (take l.other-index l.predicates) ≡ false
