use Rattle.std.proofs.Common.{◌≡◌, ◌∙◌, ◌++◌, ◌∷◌, [], ◌-◌, ◌<◌, length, ap, arith}
use Rattle.cq_attr.proofs.Elements.{all_at, on_err}
use Rattle.cq_attr.proofs.Awake.{walked_none, steps_back, earlier_before, this_awake, walked_on, walked_over, walked_all}
use Rattle.cq_attr.proofs.attrs.find_awake.Goals as goal

pub loop-place-init : goal.loop-place-init
loop-place-init c = walked_none c.args.watchers.now.now c.args.slots.now.now c.args.variable.0 c.args.found.now.items c.newest-place.result c.newest-place.ensures

pub get-requires : goal.get-requires
get-requires c =
    let some : 0 < c.loop-place.place = omega (arith, c.loop-place-test.true) in
    let back = steps_back c.args.watchers.now.now c.args.slots.now.now c.args.variable.0 c.loop-place.place c.note-number.result c.loop-place.invariant some c.note-number.ensures in
    all_at (λ w. w.1 < length c.args.slots.now.now) c.args.watchers.now.now (c.loop-place.place - 1) (c.args.variable.0, c.note-number.result.0) c.requires back.here

pub returns-in_err-push-clause-kept : goal.returns-in_err-push-clause-kept
returns-in_err-push-clause-kept c = rw c.in_err-push.ensures.items c.loop-place.invariant.kept

pub returns-in_err-push-clause-err : goal.returns-in_err-push-clause-err
returns-in_err-push-clause-err c =
    let some : 0 < c.loop-place.place = omega (arith, c.loop-place-test.true) in
    let back = steps_back c.args.watchers.now.now c.args.slots.now.now c.args.variable.0 c.loop-place.place c.note-number.result c.loop-place.invariant some c.note-number.ensures in
    on_err c.from_residual.result (c.note-number.result.0, this_awake c.args.watchers.now.now c.args.slots.now.now c.args.variable.0 _ _ c.loop-place.place c.note-number.result.0 c.note-number.result.1 c.loop-place.invariant some back c.get.result.now c.get.ensures c.if-get.true)

pub loop-place-smaller-in_ok-push : goal.loop-place-smaller-in_ok-push
loop-place-smaller-in_ok-push c =
    let some : 0 < c.loop-place.place = omega (arith, c.loop-place-test.true) in
    let back = steps_back c.args.watchers.now.now c.args.slots.now.now c.args.variable.0 c.loop-place.place c.note-number.result c.loop-place.invariant some c.note-number.ensures in
    earlier_before c.args.watchers.now.now c.args.slots.now.now c.args.variable.0 _ _ c.loop-place.place c.note-number.result.0 c.note-number.result.1 c.loop-place.invariant some back

pub loop-place-preserved-in_ok-push : goal.loop-place-preserved-in_ok-push
loop-place-preserved-in_ok-push c =
    let some : 0 < c.loop-place.place = omega (arith, c.loop-place-test.true) in
    let back = steps_back c.args.watchers.now.now c.args.slots.now.now c.args.variable.0 c.loop-place.place c.note-number.result c.loop-place.invariant some c.note-number.ensures in
    let pushed : c.push.new.self.items ≡ c.loop-place.found.items ++ c.note-number.result.0 ∷ [] = c.in_ok-push.ensures.items ∙ ap (λ n. c.loop-place.found.items ++ n ∷ []) c.new.ensures in
    rw pushed (walked_on c.args.watchers.now.now c.args.slots.now.now c.args.variable.0 _ _ c.loop-place.place c.note-number.result.0 c.note-number.result.1 c.loop-place.invariant some back c.get.result.now c.get.ensures c.if-get.true)

pub loop-place-smaller : goal.loop-place-smaller
loop-place-smaller c =
    let some : 0 < c.loop-place.place = omega (arith, c.loop-place-test.true) in
    let back = steps_back c.args.watchers.now.now c.args.slots.now.now c.args.variable.0 c.loop-place.place c.note-number.result c.loop-place.invariant some c.note-number.ensures in
    earlier_before c.args.watchers.now.now c.args.slots.now.now c.args.variable.0 _ _ c.loop-place.place c.note-number.result.0 c.note-number.result.1 c.loop-place.invariant some back

pub loop-place-preserved : goal.loop-place-preserved
loop-place-preserved c =
    let some : 0 < c.loop-place.place = omega (arith, c.loop-place-test.true) in
    let back = steps_back c.args.watchers.now.now c.args.slots.now.now c.args.variable.0 c.loop-place.place c.note-number.result c.loop-place.invariant some c.note-number.ensures in
    walked_over c.args.watchers.now.now c.args.slots.now.now c.args.variable.0 _ _ c.loop-place.place c.note-number.result.0 c.note-number.result.1 c.loop-place.invariant some back c.get.result.now c.get.ensures c.if-get.false

pub returns-clause-all : goal.returns-clause-all
returns-clause-all c =
    walked_all c.args.watchers.now.now c.args.slots.now.now c.args.variable.0 c.args.found.now.items c.loop-place.found.items c.loop-place.place c.loop-place.invariant (omega (arith, c.loop-place-test.false))
