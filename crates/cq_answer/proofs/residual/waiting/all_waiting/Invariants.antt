use Rattle.std.proofs.Common.{◌≡◌, take, map}
use Rattle.cq_answer.specs.Shown.{all_waiting}
use Rattle.cq_answer.proofs.residual.waiting.all_waiting.Given as goal

abbrev pub invariant-numbers : goal.invariant-numbers
invariant-numbers l = l.all.items ≡ take l.number-index (all_waiting l.attrs.now)
