use Rattle.std.proofs.Common.{◌<◌, ◌≤◌, List, length, take, ap, refl, sym, subst, ◌∙◌, arith}
use Rattle.std.specs.Prelude.{All, Contains}
use Rattle.std.proofs.lemmas.List.{take_all}
use Rattle.cq_attr.specs.Attributes.{Waiting, numbers}
use Rattle.cq_term.specs.HeapValue.{Terms}
use Rattle.cq_term.specs.Places.{numbers_of}
use Rattle.cq_settle.specs.Steps.{WakesOne}
use Rattle.cq_settle.specs.Underway.{IsLive}
use Rattle.cq_settle.proofs.Again.{attrs_marks, take_here, element}
use Rattle.cq_settle.proofs.Marks.{marks_then}
use Rattle.cq_settle.proofs.Waking.{left_of, given_of, left_none, left_live, still_left, not_before, wake_on, wakes_numeric, wakes_next, all_left, all_given}
use Rattle.cq_settle.proofs.Ways.{AreWoken, woken_waits}
use Rattle.cq_settle.proofs.closing.wake.Goals as goal

pub loop-number-init : goal.loop-number-init
loop-number-init c = record {
  goals = c.new-goals.ensures.items;
  waiting = left_none c.args.world.now.heap.now.images c.args.world.now.attrs.now.waiting c.store_and_numbers.ensures.ascending;
  numeric = refl;
  next = refl;
  heap = refl;
  store = refl;
  marks = record { heap = refl; attrs = refl; store = refl; pivots = refl; room = omega arith };
}

pub wake_one-requires-clause-waits : goal.wake_one-requires-clause-waits
wake_one-requires-clause-waits c =
    let a = c.args.world.now.attrs.now in
    let i = c.loop-number.number-index in
    let ns = c.deref-number-items.result.now in
    let n = c.number-item.result in
    let at : i < length ns = omega (arith, c.loop-number-test.true) in
    let w = subst (AreWoken a (numbers_of c.args.newly.now)) (sym c.deref-number-items.ensures.value)
    (record { sound = c.in_ok-woken.ensures.woken; all = c.in_ok-woken.ensures.all; ascends = c.in_ok-woken.ensures.ascending }) in
    subst (λ (ws : List Waiting). Contains (numbers ws) n) (sym c.loop-number.invariant.waiting)
    (still_left c.args.world.now.heap.now.images a.waiting c.store_and_numbers.ensures.ascending (take i ns) n
    (element (Contains (numbers a.waiting)) ns i n at c.number-item.is (woken_waits a (numbers_of c.args.newly.now) ns w))
    (λ h. not_before ns i n w.ascends at (subst (Contains (take i ns)) c.number-item.is h)))

pub wake_one-requires-clause-live : goal.wake_one-requires-clause-live
wake_one-requires-clause-live c =
    let a = c.args.world.now.attrs.now in
    let ns = c.deref-number-items.result.now in
    subst (λ (h : Terms). All (λ k. IsLive h k.susp) c.loop-number.world.attrs.now.waiting) (sym c.loop-number.invariant.heap)
    (subst (λ (ws : List Waiting). All (λ k. IsLive c.args.world.now.heap.now k.susp) ws) (sym c.loop-number.invariant.waiting)
    (left_live c.args.world.now.heap.now.images a.waiting c.store_and_numbers.ensures.ascending (λ k. IsLive c.args.world.now.heap.now k.susp) (take c.loop-number.number-index ns) c.requires))

pub loop-number-preserved : goal.loop-number-preserved
loop-number-preserved c =
    let images = c.args.world.now.heap.now.images in
    let ws = c.args.world.now.attrs.now.waiting in
    let i = c.loop-number.number-index in
    let ns = c.deref-number-items.result.now in
    let n = c.number-item.result in
    let at : i < length ns = omega (arith, c.loop-number-test.true) in
    let w = subst (λ (h : Terms). WakesOne h.images n c.loop-number.world.attrs.now c.wake_one.new.attrs.now c.loop-number.goals.items c.wake_one.new.goals.items) c.loop-number.invariant.heap
    c.in_ok-wake_one.ensures.wakes in
    let r = wake_on images ws c.store_and_numbers.ensures.ascending (take i ns) n c.loop-number.world.attrs.now c.wake_one.new.attrs.now c.loop-number.goals.items c.wake_one.new.goals.items w
    c.loop-number.invariant.waiting c.loop-number.invariant.goals in
    record {
      goals = r.1 ∙ ap (given_of images ws) (sym (take_here ns i n at c.number-item.is));
      waiting = r.0 ∙ ap (left_of images ws) (sym (take_here ns i n at c.number-item.is));
      numeric = wakes_numeric images n _ _ _ _ w ∙ c.loop-number.invariant.numeric;
      next = wakes_next images n _ _ _ _ w ∙ c.loop-number.invariant.next;
      heap = c.loop-number.invariant.heap;
      store = c.loop-number.invariant.store;
      marks = marks_then _ _ _ c.loop-number.invariant.marks (attrs_marks _ _ refl refl c.wake_one.ensures.saved c.wake_one.ensures.room);
    }

pub returns-in_err-wake_one-clause-heap : goal.returns-in_err-wake_one-clause-heap
returns-in_err-wake_one-clause-heap c = c.loop-number.invariant.heap

pub returns-in_err-wake_one-clause-store : goal.returns-in_err-wake_one-clause-store
returns-in_err-wake_one-clause-store c = c.loop-number.invariant.store

pub returns-in_err-wake_one-clause-marks : goal.returns-in_err-wake_one-clause-marks
returns-in_err-wake_one-clause-marks c = marks_then _ _ _ c.loop-number.invariant.marks (attrs_marks _ _ refl refl c.wake_one.ensures.saved c.wake_one.ensures.room)

pub returns-clause-woken : goal.returns-clause-woken
returns-clause-woken c =
    let images = c.args.world.now.heap.now.images in
    let a = c.args.world.now.attrs.now in
    let ns = c.deref-number-items.result.now in
    let bound = numbers_of c.args.newly.now in
    let all : length ns ≤ c.loop-number.number-index = omega (arith, c.loop-number-test.false) in
    let w = subst (AreWoken a bound) (sym c.deref-number-items.ensures.value)
    (record { sound = c.in_ok-woken.ensures.woken; all = c.in_ok-woken.ensures.all; ascends = c.in_ok-woken.ensures.ascending }) in
    record {
      numeric = c.loop-number.invariant.numeric;
      next = c.loop-number.invariant.next;
      given = c.loop-number.invariant.goals ∙ ap (given_of images a.waiting) (take_all c.loop-number.number-index ns all)
          ∙ all_given images a.waiting c.store_and_numbers.ensures.ascending a refl bound ns w.ascends w.sound w.all;
      waiting = c.loop-number.invariant.waiting ∙ ap (left_of images a.waiting) (take_all c.loop-number.number-index ns all)
          ∙ all_left images a.waiting c.store_and_numbers.ensures.ascending a refl bound ns w.ascends w.sound w.all;
    }
