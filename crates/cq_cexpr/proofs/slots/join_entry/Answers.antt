use Rattle.std.proofs.Common.{◌≡◌, ◌∙◌, Err, ap, sym, subst}
use Rattle.spec_numbers.specs.Rational.{◌*ℚ◌}
use Rattle.spec_numbers.specs.Sums.{unit}
use Rattle.cq_frac.proofs.Exits.{pair_told}
use Rattle.cq_frac.specs.declared.row.Entry.{Entry}
use Rattle.cq_frac.specs.Rows.{sum_at, joined}
use Rattle.cq_frac.proofs.OneMore.{set_value}
use Rattle.cq_cexpr.specs.Slots.{Meets}
use Rattle.cq_cexpr.proofs.Places.{rising_set, slot_factor}
use Rattle.cq_cexpr.proofs.slots.join_entry.Goals as goal
use Rattle.cq_cexpr.proofs.slots.join_entry.Goals.{After-index}

same : (c : After-index) → c.index.result.now.quantity ≡ c.args.entry.quantity
same c = ap (λ (t : Entry). t.quantity) c.index.ensures ∙ c.in_ok-at.ensures.found.own c.index.result.now

pub returns-in_err-factor-clause-overflow : goal.returns-in_err-factor-clause-overflow
returns-in_err-factor-clause-overflow c = λ pair e.
    let w = (goal.at.returns-in_err-factor-clause-overflow c).After-index in
    let s = c.slot_for.new.slots.items in
    let own = c.index.result.now in
    let has : sum_at (unit c.args.entry.quantity) s ≡ own.factor = subst (λ n. sum_at (unit n) s ≡ own.factor) (same w) (slot_factor 0 s c.in_ok-at.at own c.in_ok-at.ensures.rising c.in_ok-at.ensures.found.within c.index.ensures) in
    subst (λ q. Meets c.args.how q c.args.entry.factor pair) (sym has ∙ c.in_ok-at.ensures.value (unit c.args.entry.quantity))
    (c.in_err-factor.ensures.refused pair (ap Err (pair_told _ _ pair c.from_residual-in_err-factor.ensures.1 e)))

pub returns-clause-rising : goal.returns-clause-rising
returns-clause-rising c =
    rising_set 0 c.slot_for.new.slots.items c.in_ok-at.at (record { quantity = c.args.entry.quantity; factor = c.in_ok-factor.factor })
    c.in_ok-at.ensures.rising c.in_ok-at.ensures.found.within (c.in_ok-at.ensures.found.own _)

pub returns-clause-value : goal.returns-clause-value
returns-clause-value c = λ v.
    let w = (goal.at.returns-clause-value c).After-index in
    set_value c.args.how c.slot_for.new.slots.items c.in_ok-at.at c.index.result.now c.args.entry c.in_ok-factor.factor
    c.in_ok-at.ensures.found.within c.index.ensures (same w) c.in_ok-factor.ensures.value v
    ∙ ap (λ q. joined c.args.how q (c.args.entry.factor *ℚ v c.args.entry.quantity)) (c.in_ok-at.ensures.value v)
