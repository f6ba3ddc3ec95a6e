use Rattle.std.proofs.Common.{◌≡◌, [], take}
use Rattle.cq_attr.specs.Attributes.{numbers}
use Rattle.cq_attr.specs.Layout.{waiting_from}
use Rattle.cq_attr.proofs.attrs.Attrs.waiting.Given as goal

-- the numbers do not depend on what they wait for
abbrev pub invariant-loop-number : goal.invariant-loop-number
invariant-loop-number l = l.numbers.items ≡ numbers (waiting_from 0 (take l.number l.slot-items) [])
