use Rattle.std.proofs.Common.{◌<◌, ◌+◌, length, ap, arith}
use Rattle.cq_calls.proofs.Apart.{begin_first, begin_next, ends_within, other_again}
use Rattle.cq_resolve.specs.Marks.{shown}
use Rattle.std.specs.Prelude.{map}
use Rattle.cq_calls.proofs.matching.was_other.Goals as goal

pub earlier-init : goal.earlier-init
earlier-init c = begin_first c.requires.pattern.0 (map shown c.args.head.now) c.requires.pattern.1

pub returns-then-differ : goal.returns-then-differ
returns-then-differ c = λ yes goal args again.
    let within : c.earlier.place < length c.args.head.now = omega (arith, c.if-place-head.false) in
    let there : c.earlier.j < length c.args.goals.now = omega (arith, c.earlier-test.true, c.requires.asked) in
    other_again c.args.head.now c.requires.pattern.0 c.requires.pattern.1 c.requires.marks c.earlier.place c.earlier.j c.earlier.invariant within c.index-head-place.result
    c.index-head-place.is c.args.heap.now.now.terms c.args.goals.now c.index-goals-j.result there c.index-goals-j.is goal args c.args.i c.index-goals-i.result c.args.variable
    c.requires.asked c.index-goals-i.is (c.is_variable.ensures c.if-is_variable.true) again c.view.result c.view-then-is_variable.result c.view.ensures.view
    c.view-then-is_variable.ensures.view (c.differ.ensures c.if-differ.true)

pub overflow_add-place : goal.overflow_add-place
overflow_add-place c =
    let within : c.earlier.place < length c.args.head.now = omega (arith, c.if-place-head.false) in
    let ends =
    ends_within c.args.head.now c.requires.pattern.0 c.requires.pattern.1 c.requires.marks c.earlier.place c.earlier.j c.earlier.invariant within c.index-head-place-in-earlier.result
    c.index-head-place-in-earlier.is c.size-place.result c.size-place.ensures in
    omega (arith, ends)

pub earlier-preserved : goal.earlier-preserved
earlier-preserved c =
    let within : c.earlier.place < length c.args.head.now = omega (arith, c.if-place-head.false) in
    begin_next c.args.head.now c.requires.pattern.0 c.requires.pattern.1 c.requires.marks c.earlier.place c.earlier.j c.earlier.invariant within c.index-head-place-in-earlier.result
    c.index-head-place-in-earlier.is (c.earlier.place + c.size-place.result) (c.earlier.j + 1) (ap (λ n. c.earlier.place + n) c.size-place.ensures) (omega arith)
