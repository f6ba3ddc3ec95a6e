use Rattle.std.proofs.Common.{◌+◌, ◌<◌, ℕ, length, take, arith, sym, subst}
use Rattle.std.proofs.lemmas.Bool.{OnTrue_at}
use Rattle.cq_trail.specs.StackValue.{StackValue}
use Rattle.cq_trail.specs.TrailValue.{TrailValue}
use Rattle.cq_dict.specs.declared.holders.Cell.{Cell}
use Rattle.cq_dict.specs.Holders.{IsListed}
use Rattle.cq_dict.proofs.Entries.{Holding, holding_start, holding_more, has_here}
use Rattle.cq_dict.proofs.Lists.{grows_same}
use Rattle.cq_dict.proofs.holders.hold_entries.Goals as goal
use Rattle.cq_dict.proofs.holders.hold_entries.Goals.{then-not-stands_at+in_ok-add, else-not-stands_at}

pub loop-m-init : goal.loop-m-init
loop-m-init c = holding_start c.args.heads.now c.args.cells.now c.args.number

pub add-requires : goal.add-requires
add-requires c =
    let l : c.loop-m.m-index < length c.args.entries.now = omega arith in
    let b = c.requires.columns c.m-item.result (has_here c.args.entries.now c.loop-m.m-index c.m-item.result l c.m-item.is) in
    let s = c.loop-m.invariant.grows.size in
    omega (arith, b, s)

pub loop-m-preserved : goal.loop-m-preserved
loop-m-preserved c =
    let l : c.loop-m.m-index < length c.args.entries.now = omega arith in
    let h = c.args.heads.now in
    let x = c.args.cells.now in
    let front = take (c.loop-m.m-index + 1) c.args.entries.now in
    elim c.if-not-stands_at.branch [
      | then-not-stands_at+in_ok-add w ↦
          subst (λ (z : TrailValue ℕ). Holding h x c.args.number front z c.if-not-stands_at.cells) (sym w.heads-is)
          (subst (λ (z : StackValue Cell). Holding h x c.args.number front w.add.new.heads z) (sym w.cells-is)
          (holding_more h c.loop-m.heads w.add.new.heads x c.loop-m.cells w.add.new.cells c.args.number c.args.entries.now c.loop-m.m-index c.m-item.result l c.m-item.is c.loop-m.invariant w.add.ensures.grows w.in_ok-add.ensures.listed))
      | else-not-stands_at w ↦
          let f = OnTrue_at w.if-not-stands_at.false c.stands_at.ensures in
          subst (λ (z : TrailValue ℕ). Holding h x c.args.number front z c.if-not-stands_at.cells) (sym w.heads-is)
          (subst (λ (z : StackValue Cell). Holding h x c.args.number front c.loop-m.heads z) (sym w.cells-is)
          (holding_more h c.loop-m.heads c.loop-m.heads x c.loop-m.cells c.loop-m.cells c.args.number c.args.entries.now c.loop-m.m-index c.m-item.result l c.m-item.is c.loop-m.invariant (grows_same c.loop-m.heads c.loop-m.cells)
          (c.loop-m.invariant.grows.still c.m-item.result.quantity c.args.number (subst (λ q. IsListed h.now x.now q c.args.number) f.2 (c.requires.held f.0 f.1)))))
    ]
