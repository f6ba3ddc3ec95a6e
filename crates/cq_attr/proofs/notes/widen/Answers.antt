use Rattle.std.proofs.Common.{◌<◌, ◌≤◌, ◌∙◌, length, arith}
use Rattle.std.proofs.lemmas.List.{take_all}
use Rattle.cq_frac.specs.declared.VarId.{VarId}
use Rattle.cq_attr.proofs.Linked.{places_more, widened_same}
use Rattle.cq_attr.proofs.notes.widen.Goals as goal
use Rattle.cq_attr.proofs.notes.widen.Goals.{then-len-width+in_ok-resize, else-len-width}

pub loop-variable-preserved : goal.loop-variable-preserved
loop-variable-preserved c =
    let d : VarId = record { 0 = 0 } in
    let i = c.loop-variable.variable-index in
    let old = c.loop-variable.newest.items in
    let at : i < length c.args.variables.now = omega (arith, c.loop-variable-test.true) in
    let width = rw c.in_ok-width.ensures.ok_part at c.checked_add.ensures in
    elim c.if-len-width.branch [
      | then-len-width+in_ok-resize w ↦
          let items = rw w.in_ok-resize.was at w.resize.ensures.items in
          let len = rw w.in_ok-resize.was at w.resize.ensures.len in
          rw w.newest-is (record {
            same = λ v. widened_same old w.resize.new.self.items c.in_ok-width.width _ v (omega (arith, w.if-len-width.true, c.len.ensures, c.loop-variable.newest.ok.0)) items ∙ c.loop-variable.invariant.same v;
            places = places_more old w.resize.new.self.items c.args.variables.now i d c.loop-variable.invariant.places at
                (omega (arith, len, w.if-len-width.true, c.len.ensures, c.loop-variable.newest.ok.0, w.resize.new.self.ok.0))
                (omega (arith, len, width.1, w.resize.new.self.ok.0));
          })
      | else-len-width w ↦
          rw w.newest-is (record {
            same = c.loop-variable.invariant.same;
            places = places_more old old c.args.variables.now i d c.loop-variable.invariant.places at (omega arith)
                (omega (arith, width.1, w.if-len-width.false, c.len.ensures, c.loop-variable.newest.ok.0));
          })
    ]

pub returns-clause-places : goal.returns-clause-places
returns-clause-places c =
    let all : length c.args.variables.now ≤ c.loop-variable.variable-index = omega (arith, c.loop-variable-test.false) in
    rw (take_all c.loop-variable.variable-index c.args.variables.now all) at c.loop-variable.invariant.places
