use Rattle.std.proofs.Common.{◌≡◌, ◌<◌, ◌≤◌, ◌∙◌, length, get_or, ap, arith}
use Rattle.std.proofs.lemmas.List.{get_or_default, take_all}
use Rattle.cq_term.specs.declared.names.Pred.{Pred}
use Rattle.cq_clauses.proofs.Chained.{places_more, widened_same}
use Rattle.cq_clauses.proofs.predicates.widen.Goals as goal
use Rattle.cq_clauses.proofs.predicates.widen.Goals.{then-len-width+in_ok-resize, else-len-width}

pub loop-pred-preserved : goal.loop-pred-preserved
loop-pred-preserved c =
    let d : Pred = record { name = 0; arity = 0 } in
    let i = c.loop-pred.pred-index in
    let old = c.loop-pred.newest.items in
    let at : i < length c.args.preds.now = omega (arith, c.loop-pred-test.true) in
    let here : c.pred-item.result ≡ get_or c.args.preds.now i d = c.pred-item.is ∙ get_or_default c.args.preds.now i c.pred-item.result d at in
    let name : c.index.result ≡ (get_or c.args.preds.now i d).name = c.index.ensures ∙ ap (λ (p : Pred). p.name) here in
    let width = rw c.in_ok-width.ensures.ok_part at c.checked_add.ensures in
    elim c.if-len-width.branch [
      | then-len-width+in_ok-resize w ↦
          let items = rw w.in_ok-resize.was at w.resize.ensures.items in
          let len = rw w.in_ok-resize.was at w.resize.ensures.len in
          rw w.newest-is (record {
            same = λ name. widened_same old w.resize.new.self.items c.in_ok-width.width _ name (omega (arith, w.if-len-width.true, c.len.ensures, c.loop-pred.newest.ok.0)) items ∙ c.loop-pred.invariant.same name;
            places = places_more old w.resize.new.self.items c.args.preds.now i d c.loop-pred.invariant.places at
                (omega (arith, len, w.if-len-width.true, c.len.ensures, c.loop-pred.newest.ok.0, w.resize.new.self.ok.0))
                (omega (arith, len, width.1, name, w.resize.new.self.ok.0));
          })
      | else-len-width w ↦
          rw w.newest-is (record {
            same = c.loop-pred.invariant.same;
            places = places_more old old c.args.preds.now i d c.loop-pred.invariant.places at (omega arith)
                (omega (arith, width.1, name, w.if-len-width.false, c.len.ensures, c.loop-pred.newest.ok.0));
          })
    ]

pub returns-clause-places : goal.returns-clause-places
returns-clause-places c =
    let all : length c.args.preds.now ≤ c.loop-pred.pred-index = omega (arith, c.loop-pred-test.false) in
    rw (take_all c.loop-pred.pred-index c.args.preds.now all) at c.loop-pred.invariant.places
