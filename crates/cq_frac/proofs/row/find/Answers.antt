use Rattle.std.proofs.Common.{arith, ap}
use Rattle.cq_frac.specs.declared.row.Entry.{Entry}
use Rattle.cq_frac.specs.Rows.{everywhere}
use Rattle.cq_frac.proofs.Placed.{rising, below_at, above_from, above_end}
use Rattle.cq_frac.proofs.row.find.Goals as goal
use Rattle.cq_frac.proofs.row.find.Goals.{else-at-row-via-then-at-row+else-row-at, else-at-row-via-else-at-row}

pub place_of-at-requires : goal.place_of-at-requires
place_of-at-requires c = record { rising = rising everywhere 0 c.args.row.now c.requires.row }

pub returns-else-at-row : goal.returns-else-at-row
returns-else-at-row c = record {
  within = c.place_of-at.ensures.bound;
  below = below_at c.args.quantity c.args.row.now c.place_of-at.result c.place_of-at.ensures.bound c.place_of-at.ensures.below;
  above = elim c.else-at-row.branch [
    | else-at-row-via-then-at-row+else-row-at w ↦
        let k = c.place_of-at.ensures.rest c.place_of-at.result w.index-row-at.result (omega arith) w.if-at-row.true in
        above_from everywhere 0 c.args.quantity c.args.row.now c.place_of-at.result w.index-row-at.result c.requires.row w.if-at-row.true w.index-row-at.is
        (let n = w.if-row-at.false in let f = ap (λ (t : Entry). t.quantity) w.index-row-at.is in omega (arith, k, n, f))
    | else-at-row-via-else-at-row w ↦ above_end c.args.quantity c.args.row.now c.place_of-at.result w.if-at-row.false
  ];
}
