use Rattle.std.proofs.Common.{◌≡◌, ◌<◌, ◌≤◌, ◌∙◌, [], ◌∷◌, ◌++◌, refl, sym, ap, length, arith}
use Rattle.std.specs.Prelude.{slice_get, Some}
use Rattle.std.proofs.lemmas.List.{take_all}
use Rattle.std.proofs.lemmas.Option.{slice_get_read}
use Rattle.cq_attr.specs.Attributes.{numbers}
use Rattle.cq_attr.specs.Layout.{waiting_from}
use Rattle.cq_attr.proofs.Elements.{on_err}
use Rattle.cq_attr.proofs.Numbers.{contains_waiting, numbers_alone}
use Rattle.cq_attr.proofs.Slots.{waiting_next, waiting_next_not}
use Rattle.cq_attr.proofs.attrs.Attrs.waiting.Goals as goal
use Rattle.cq_attr.proofs.attrs.Attrs.waiting.Goals.{then-slot+in_ok-push, else-slot}

pub returns-in_err-push-clause-err : goal.returns-in_err-push-clause-err
returns-in_err-push-clause-err c =
    let ss = c.self.inside.parts.inner.second.second.now in
    let i = c.loop-number.number in
    let within : i < length c.as_slice-slot-items.result.now = omega (arith, c.loop-number-test.true) in
    let here = slice_get_read c.as_slice-slot-items.result.now (length c.as_slice-slot-items.result.now) i c.slot-item.result refl within c.slot-item.is in
    let there : slice_get ss i ≡ Some c.slot-item.result = ap (λ xs. slice_get xs i) (sym c.as_slice-slot-items.ensures) ∙ here in
    let some = contains_waiting 0 ss c.self.inside.parts.inner.second.first.now i c.slot-item.result there c.if-slot.true in
    on_err c.from_residual.result (rw (← c.self.view_is) (omega (arith, some.1)))

pub loop-number-preserved : goal.loop-number-preserved
loop-number-preserved c =
    let ss = c.as_slice-slot-items.result.now in
    let i = c.loop-number.number in
    let within : i < length ss = omega (arith, c.loop-number-test.true) in
    elim c.if-slot.branch [
      | then-slot+in_ok-push w ↦
          rw (w.numbers-is, w.in_ok-push.ensures.items, w.new.ensures)
          (ap (λ ns. ns ++ i ∷ []) c.loop-number.invariant ∙ sym (waiting_next ss i c.slot-item.result within c.slot-item.is w.if-slot.true))
      | else-slot w ↦ rw w.numbers-is (c.loop-number.invariant ∙ sym (waiting_next_not ss i c.slot-item.result within c.slot-item.is w.if-slot.false))
    ]

pub returns-clause-ok : goal.returns-clause-ok
returns-clause-ok c =
    let ss = c.as_slice-slot-items.result.now in
    let all : length ss ≤ c.loop-number.number = omega (arith, c.loop-number-test.false) in
    rw (← c.self.view_is)
    (c.loop-number.invariant
    ∙ ap (λ xs. numbers (waiting_from 0 xs [])) (take_all c.loop-number.number ss all ∙ c.as_slice-slot-items.ensures)
    ∙ numbers_alone 0 c.self.inside.parts.inner.second.second.now [] c.self.inside.parts.inner.second.first.now)
