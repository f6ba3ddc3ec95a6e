use Rattle.std.proofs.Common.{◌∙◌, arith, ap, sym, subst}
use Rattle.cq_frac.specs.Rows.{everywhere, IsRowFrom, Lacks, IsGapAt, sum_at}
use Rattle.cq_frac.proofs.Placed.{rising, gap_of_lacks, row_insert, sum_at-insert}
use Rattle.cq_frac.proofs.row.put.Goals as goal
use Rattle.cq_frac.proofs.row.put.Goals.{After-place_of-at}

pub place_of-at-requires : goal.place_of-at-requires
place_of-at-requires c = record { rising = rising everywhere 0 _ (subst (IsRowFrom everywhere 0) (sym c.deref.ensures.value) c.requires.row) }

gap : (c : After-place_of-at) → IsGapAt c.args.entry.quantity c.args.row.now.items c.place_of-at.result
gap c =
    subst (λ s. IsGapAt c.args.entry.quantity s c.place_of-at.result) c.deref.ensures.value
    (gap_of_lacks c.args.entry.quantity c.deref.result.now c.place_of-at.result c.place_of-at.ensures.bound c.place_of-at.ensures.below c.place_of-at.ensures.rest
    (subst (Lacks c.args.entry.quantity) (sym c.deref.ensures.value) c.requires.new))

pub returns-clause-row : goal.returns-clause-row
returns-clause-row c = λ p t r.
    let g = gap (goal.at.returns-clause-row c).After-place_of-at in
    subst (IsRowFrom p 0) (sym c.in_ok-insert.ensures.items)
    (row_insert p 0 c.args.row.now.items c.place_of-at.result c.args.entry (omega arith) t c.requires.nonzero r g.below g.above)

pub returns-clause-value : goal.returns-clause-value
returns-clause-value c = λ x. ap (sum_at x) c.in_ok-insert.ensures.items ∙ sum_at-insert x c.args.row.now.items c.place_of-at.result c.args.entry
