use Rattle.std.proofs.Common.{◌<◌, ◌+◌, length, ap, arith}
use Rattle.cq_calls.proofs.Apart.{begin_first, begin_next, ends_within}
use Rattle.cq_resolve.specs.Marks.{shown}
use Rattle.std.specs.Prelude.{map}
use Rattle.cq_calls.proofs.matching.arguments_may_match.Goals as goal

pub arguments-init : goal.arguments-init
arguments-init c = begin_first c.requires.pattern.0 (map shown c.args.head.now) c.requires.pattern.1

pub overflow_add-place : goal.overflow_add-place
overflow_add-place c =
    let within : c.arguments.place < length c.args.head.now = omega (arith, c.if-place-head.false) in
    let ends =
    ends_within c.args.head.now c.requires.pattern.0 c.requires.pattern.1 c.requires.marks c.arguments.place c.arguments.i c.arguments.invariant within c.index-head-place.result
    c.index-head-place.is c.size-place.result c.size-place.ensures in
    omega (arith, ends)

pub arguments-preserved : goal.arguments-preserved
arguments-preserved c =
    let within : c.arguments.place < length c.args.head.now = omega (arith, c.if-place-head.false) in
    begin_next c.args.head.now c.requires.pattern.0 c.requires.pattern.1 c.requires.marks c.arguments.place c.arguments.i c.arguments.invariant within c.index-head-place.result
    c.index-head-place.is (c.arguments.place + c.size-place.result) (c.arguments.i + 1) (ap (λ n. c.arguments.place + n) c.size-place.ensures) (omega arith)
