use Rattle.std.proofs.Common.{◌<◌, ◌≤◌, ◌∙◌, ◌++◌, ◌∷◌, [], sym, ap, refl, subst, length, take, arith}
use Rattle.std.specs.Prelude.{Contains}
use Rattle.std.proofs.lemmas.List.{take_all, take_more}
use Rattle.std.proofs.lemmas.List.Elements.{All-get_or}
use Rattle.cq_attr.specs.Attributes.{numbers}
use Rattle.cq_settle.specs.Steps.{AllWatch}
use Rattle.cq_settle.proofs.Watch.{none_watch, one_watches, watch_more, still_waits}
use Rattle.cq_settle.proofs.joining.watch_all.Goals as goal

pub loop-number-init : goal.loop-number-init
loop-number-init c = record { watch = none_watch c.args.image.0 c.args.attrs.now.now; saved = refl; room = omega arith }

pub watch-requires : goal.watch-requires
watch-requires c =
    let i = c.loop-number.number-index in
    let at : i < length c.args.woken.now = omega (arith, c.loop-number-test.true) in
    let n = c.number-item.result in
    still_waits (take i c.args.woken.now) c.args.image.0 n c.args.attrs.now.now c.loop-number.attrs.now c.loop-number.invariant.watch
    (subst (Contains (numbers c.args.attrs.now.now.waiting)) (sym c.number-item.is) (All-get_or (Contains (numbers c.args.attrs.now.now.waiting)) c.args.woken.now i n at c.requires))

pub loop-number-preserved : goal.loop-number-preserved
loop-number-preserved c =
    let i = c.loop-number.number-index in
    let n = c.number-item.result in
    let at : i < length c.args.woken.now = omega (arith, c.loop-number-test.true) in
    record {
      watch = subst (λ ns. AllWatch ns c.args.image.0 c.args.attrs.now.now c.watch.new.self.now) (sym (take_more c.args.woken.now i n at ∙ ap (λ x. take i c.args.woken.now ++ x ∷ []) (sym c.number-item.is)))
          (watch_more (take i c.args.woken.now) n c.args.image.0 c.args.attrs.now.now c.loop-number.attrs.now c.watch.new.self.now c.loop-number.invariant.watch
          (one_watches n c.args.image.0 c.loop-number.attrs.now c.watch.new.self.now c.in_ok-watch.ensures.ok));
      saved = c.watch.ensures.saved ∙ c.loop-number.invariant.saved;
      room = omega arith;
    }

pub returns-clause-watch : goal.returns-clause-watch
returns-clause-watch c =
    let all : length c.args.woken.now ≤ c.loop-number.number-index = omega (arith, c.loop-number-test.false) in
    rw (take_all c.loop-number.number-index c.args.woken.now all) at c.loop-number.invariant.watch
