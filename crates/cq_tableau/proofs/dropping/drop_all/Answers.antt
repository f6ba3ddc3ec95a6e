use Rattle.std.proofs.Common.{◌≡◌, ◌<◌, ◌≤◌, ◌+◌, length, take, arith, subst, sym, ◌∙◌}
use Rattle.cq_dict.specs.DictValue.{DictValue}
use Rattle.cq_tableau.specs.Dropped.{quantities, DropsEach}
use Rattle.cq_tableau.proofs.Drops.{has_quantity, live_below, not_dropped_live, skipped, dropped_next}
use Rattle.cq_tableau.proofs.dropping.drop_all.Goals as goal
use Rattle.cq_tableau.proofs.dropping.drop_all.Goals.{then-not-is_dropped+in_ok-drop_column, else-not-is_dropped}

pub is_dropped-requires : goal.is_dropped-requires
is_dropped-requires c =
    let l : c.loop-m.m-index < length c.args.columns.now = omega arith in
    live_below c.args.dict.now.roles (quantities (take c.loop-m.m-index c.args.columns.now)) c.loop-m.dict.roles c.loop-m.invariant.0 c.m-item.result.quantity
    (c.requires.live c.m-item.result.quantity (has_quantity c.args.columns.now c.loop-m.m-index c.m-item.result l c.m-item.is))

pub drop_column-requires : goal.drop_column-requires
drop_column-requires c =
    let l : c.loop-m.m-index < length c.args.columns.now = omega arith in
    not_dropped_live c.args.dict.now.roles (quantities (take c.loop-m.m-index c.args.columns.now)) c.loop-m.dict.roles c.loop-m.invariant.0 c.m-item.result.quantity
    (c.requires.live c.m-item.result.quantity (has_quantity c.args.columns.now c.loop-m.m-index c.m-item.result l c.m-item.is))
    (sym c.is_dropped.ensures ∙ c.if-not-is_dropped.true)

pub loop-m-preserved : goal.loop-m-preserved
loop-m-preserved c =
    let l : c.loop-m.m-index < length c.args.columns.now = omega arith in
    let old = c.args.dict.now in
    elim c.if-not-is_dropped.branch [
      | then-not-is_dropped+in_ok-drop_column w ↦
          let e = w.in_ok-drop_column.ensures in
          subst (λ (d : DictValue). DropsEach old.roles (quantities (take (c.loop-m.m-index + 1) c.args.columns.now)) d.roles × (d.restricted ≡ old.restricted) × (d.saved ≡ old.saved) × (old.room ≤ d.room))
          (sym w.dict-is) (
            dropped_next old.roles c.loop-m.dict.roles c.args.columns.now c.loop-m.m-index c.m-item.result l c.m-item.is c.loop-m.invariant.0
                w.drop_column.new.self.roles e.kinds e.table e.same,
            e.flags ∙ c.loop-m.invariant.1,
            e.saved ∙ c.loop-m.invariant.2,
            omega (arith, e.room, c.loop-m.invariant.3),
          )
      | else-not-is_dropped w ↦
          subst (λ (d : DictValue). DropsEach old.roles (quantities (take (c.loop-m.m-index + 1) c.args.columns.now)) d.roles × (d.restricted ≡ old.restricted) × (d.saved ≡ old.saved) × (old.room ≤ d.room))
          (sym w.dict-is) (
            skipped old.roles c.loop-m.dict.roles c.args.columns.now c.loop-m.m-index c.m-item.result l c.m-item.is c.loop-m.invariant.0
                (sym c.is_dropped.ensures ∙ w.if-not-is_dropped.false),
            c.loop-m.invariant.1,
            c.loop-m.invariant.2,
            c.loop-m.invariant.3,
          )
    ]
