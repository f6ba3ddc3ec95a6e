use Rattle.std.proofs.Common.{◌≡◌, ◌<◌, ◌∙◌, ℕ, List, ap, subst, length, get_or, arith}
use Rattle.std.proofs.lemmas.List.{length-map}
use Rattle.cq_attr.specs.Attributes.{Waiting, numbers}
use Rattle.cq_answer.specs.Shown.{all_waiting}
use Rattle.cq_answer.proofs.Found.{waiting_more}
use Rattle.cq_answer.proofs.residual.waiting.all_waiting.Goals as goal

pub numbers-preserved : goal.numbers-preserved
numbers-preserved c =
    let ws = c.args.attrs.now.now.waiting in
    let i = c.numbers.number-index in
    let n = c.number-item.result in
    let same : c.deref-number-items.result.now ≡ numbers ws = c.deref-number-items.ensures.value ∙ c.in_ok-numbers.ensures.ok in
    let here : i < length (numbers ws) = subst (λ (ns : List ℕ). i < length ns) same c.numbers-test.true in
    let at : n ≡ get_or (numbers ws) i n = c.number-item.is ∙ ap (λ (ns : List ℕ). get_or ns i n) same in
    let within : i < length (all_waiting c.args.attrs.now.now) = omega (arith, here, length-map ws (λ (w : Waiting). w.number), length-map ws (λ (w : Waiting). w.susp)) in
    waiting_more ws i n c.susp.result.now c.numbers.all.items c.push.new.self.items c.numbers_ascend.ensures.ascending here at c.susp.ensures c.numbers.invariant c.in_ok-push.ensures.items within
