use Rattle.std.proofs.Common.{◌≡◌, ◌∙◌, arith, refl, inl, ap, sym, subst}
use Rattle.cq_frac.specs.Refused.{Tells}
use Rattle.cq_frac.proofs.Exits.{pair_told}
use Rattle.cq_frac.proofs.Refusals.{never_both}
use Rattle.cq_frac.specs.declared.row.Entry.{Entry}
use Rattle.cq_frac.specs.Rows.{IsRowFrom, IsFoundAt, IsGapAt, operation_of, sum_at}
use Rattle.cq_frac.proofs.OneMore.{row_removed, row_set, removed_value, set_value, alone_value, one_accepted, none_accepted}
use Rattle.cq_frac.proofs.Merge.{alone_not_zero}
use Rattle.cq_frac.proofs.Placed.{gap_lacks, row_insert, sum_at-insert}
use Rattle.cq_frac.proofs.Steps.{has_at}
use Rattle.cq_frac.proofs.row.join.Goals as goal
use Rattle.cq_frac.proofs.row.join.Goals.{After-index, In-Err}

found : (c : After-index) → IsFoundAt c.args.entry.quantity c.args.row.items c.in-Ok.at
found c = subst (λ s. IsFoundAt c.args.entry.quantity s c.in-Ok.at) c.deref.ensures.value c.in-Ok.ensures

same : (c : After-index) → c.index.result.now.quantity ≡ c.args.entry.quantity
same c = ap (λ (t : Entry). t.quantity) c.index.ensures ∙ (found c).own c.index.result.now

gap : (c : In-Err) → IsGapAt c.args.entry.quantity c.args.row.items c.in-Err.at
gap c = subst (λ s. IsGapAt c.args.entry.quantity s c.in-Err.at) c.deref.ensures.value c.in-Err.ensures

pub returns-in_err-factor-in-Ok-clause-overflow : goal.returns-in_err-factor-in-Ok-clause-overflow
returns-in_err-factor-in-Ok-clause-overflow c = λ pair e.
    let w = (goal.at.returns-in_err-factor-in-Ok-clause-overflow c).After-index in
    record {
      left = c.index.result.now;
      right = c.args.entry;
      in_left = has_at c.args.row.items c.in-Ok.at c.index.result.now (found w).within c.index.ensures;
      in_right = inl refl;
      same = same w;
      tells = subst (Tells (operation_of c.args.how) c.index.result.now.factor c.args.entry.factor) (pair_told _ _ pair c.from_residual.ensures.1 e) c.in_err-factor-in-Ok.ensures;
    }

pub returns-then-is_zero-clause-row : goal.returns-then-is_zero-clause-row
returns-then-is_zero-clause-row c = λ p t r. subst (IsRowFrom p 0) (sym c.remove.ensures.items) (row_removed p 0 c.args.row.items c.in-Ok.at r)

pub returns-then-is_zero-clause-value : goal.returns-then-is_zero-clause-value
returns-then-is_zero-clause-value c = λ x.
    let w = (goal.at.returns-then-is_zero-clause-value c).After-index in
    ap (sum_at x) c.remove.ensures.items
    ∙ removed_value c.args.how c.args.row.items c.in-Ok.at c.index.result.now c.args.entry c.in_ok-factor-in-Ok.factor (found w).within c.index.ensures (same w) c.in_ok-factor-in-Ok.ensures.0 (c.is_zero.ensures.0 c.if-is_zero.true) x

pub returns-then-is_zero-clause-accepted : goal.returns-then-is_zero-clause-accepted
returns-then-is_zero-clause-accepted c =
    let w = (goal.at.returns-then-is_zero-clause-accepted c).After-index in
    one_accepted c.args.how c.args.row.items c.index.result.now c.args.entry c.requires.row (has_at c.args.row.items c.in-Ok.at c.index.result.now (found w).within c.index.ensures) (same w)
    (never_both (operation_of c.args.how) _ _ c.in_ok-factor-in-Ok.ensures.1)

pub returns-else-is_zero-clause-row : goal.returns-else-is_zero-clause-row
returns-else-is_zero-clause-row c = λ p t r.
    let w = (goal.at.returns-else-is_zero-clause-row c).After-index in
    row_set p 0 c.args.row.items c.in-Ok.at (record { quantity = c.args.entry.quantity; factor = c.in_ok-factor-in-Ok.factor }) r (found w).within ((found w).own _)
    (λ z. let e = c.is_zero.ensures.1 z in let f = c.if-is_zero.false in cc)

pub returns-else-is_zero-clause-value : goal.returns-else-is_zero-clause-value
returns-else-is_zero-clause-value c = λ x.
    let w = (goal.at.returns-else-is_zero-clause-value c).After-index in
    set_value c.args.how c.args.row.items c.in-Ok.at c.index.result.now c.args.entry c.in_ok-factor-in-Ok.factor (found w).within c.index.ensures (same w) c.in_ok-factor-in-Ok.ensures.0 x

pub returns-else-is_zero-clause-accepted : goal.returns-else-is_zero-clause-accepted
returns-else-is_zero-clause-accepted c =
    let w = (goal.at.returns-else-is_zero-clause-accepted c).After-index in
    one_accepted c.args.how c.args.row.items c.index.result.now c.args.entry c.requires.row (has_at c.args.row.items c.in-Ok.at c.index.result.now (found w).within c.index.ensures) (same w)
    (never_both (operation_of c.args.how) _ _ c.in_ok-factor-in-Ok.ensures.1)

pub returns-in_ok-insert-in-Err-clause-row : goal.returns-in_ok-insert-in-Err-clause-row
returns-in_ok-insert-in-Err-clause-row c = λ p t r.
    let g = gap (goal.at.returns-in_ok-insert-in-Err-clause-row c).In-Err in
    subst (IsRowFrom p 0) (sym c.in_ok-insert-in-Err.ensures.items)
    (row_insert p 0 c.args.row.items c.in-Err.at _ (omega arith) t (alone_not_zero c.args.how c.args.entry.factor c.alone.result c.alone.ensures c.requires.nonzero) r g.below g.above)

pub returns-in_ok-insert-in-Err-clause-value : goal.returns-in_ok-insert-in-Err-clause-value
returns-in_ok-insert-in-Err-clause-value c = λ x.
    ap (sum_at x) c.in_ok-insert-in-Err.ensures.items
    ∙ sum_at-insert x c.args.row.items c.in-Err.at (record { quantity = c.args.entry.quantity; factor = c.alone.result })
    ∙ alone_value c.args.how (sum_at x c.args.row.items) c.args.entry.factor c.alone.result (x c.args.entry.quantity) c.alone.ensures

pub returns-in_ok-insert-in-Err-clause-accepted : goal.returns-in_ok-insert-in-Err-clause-accepted
returns-in_ok-insert-in-Err-clause-accepted c =
    none_accepted c.args.how c.args.row.items c.args.entry (gap_lacks c.args.entry.quantity c.args.row.items c.in-Err.at (gap (goal.at.returns-in_ok-insert-in-Err-clause-accepted c).In-Err))
