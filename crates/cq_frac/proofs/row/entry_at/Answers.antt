use Rattle.std.proofs.Common.{◌≡◌, ◌∙◌, ap, subst}
use Rattle.cq_frac.specs.declared.row.Entry.{Entry}
use Rattle.cq_frac.specs.Rows.{Has}
use Rattle.cq_frac.proofs.Placed.{gap_lacks}
use Rattle.cq_frac.proofs.Steps.{has_at}
use Rattle.cq_frac.proofs.row.entry_at.Goals as goal

pub returns-in-Ok : goal.returns-in-Ok
returns-in-Ok c =
    let m = c.index-row-at.result in
    let own : m.quantity ≡ c.args.quantity = ap (λ (t : Entry). t.quantity) c.index-row-at.is ∙ c.in-Ok.ensures.own m in
    subst (λ (t : Entry). Has (record { quantity = c.args.quantity; factor = t.factor }) c.args.row.now) c.index-row-at.is
    (subst (λ n. Has (record { quantity = n; factor = m.factor }) c.args.row.now) own (has_at c.args.row.now c.in-Ok.at m c.in-Ok.ensures.within c.index-row-at.is))

pub returns-in-Err : goal.returns-in-Err
returns-in-Err c = gap_lacks c.args.quantity c.args.row.now c.in-Err.field-0 c.in-Err.ensures
