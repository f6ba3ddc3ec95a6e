use Rattle.std.proofs.Common.{◌<◌, ◌≤◌, ◌∙◌, Err, length, arith, ap, sym, subst}
use Rattle.std.proofs.lemmas.List.{take_all}
use Rattle.spec_numbers.specs.Sums.{unit}
use Rattle.cq_frac.proofs.Exits.{refusal_told}
use Rattle.cq_frac.specs.Rows.{sum_at, joined}
use Rattle.cq_cexpr.specs.Slots.{Meets}
use Rattle.cq_cexpr.proofs.Places.{rising_of, none_before, slot_factor, joined_nothing, joined_next}
use Rattle.cq_cexpr.proofs.slots.join_all.Goals as goal

pub loop-entry-init : goal.loop-entry-init
loop-entry-init c = record { rising = c.requires.rising; value = λ v. joined_nothing c.args.how (sum_at v c.args.slots.now.items) }

pub loop-entry-preserved : goal.loop-entry-preserved
loop-entry-preserved c =
    let l : c.loop-entry.entry-index < length c.args.entries.now = omega arith in
    record {
      rising = c.in_ok-join_entry.ensures.rising;
      value = λ v. joined_next c.args.how v c.args.entries.now c.loop-entry.entry-index c.entry-item.result _ _ _ l c.entry-item.is (c.loop-entry.invariant.value v) (c.in_ok-join_entry.ensures.value v);
    }

pub returns-in_err-join_entry-clause-overflow : goal.returns-in_err-join_entry-clause-overflow
returns-in_err-join_entry-clause-overflow c = λ pair e.
    let l : c.loop-entry.entry-index < length c.args.entries.now = omega arith in
    let m = c.entry-item.result in
    let r = rising_of 0 c.args.entries.now c.requires.in_order in
    let own = sum_at (unit m.quantity) c.args.slots.now.items in
    record {
      x = m.quantity;
      meets = subst (λ q. Meets c.args.how own q pair) (sym (slot_factor 0 c.args.entries.now c.loop-entry.entry-index m r l c.entry-item.is))
          (subst (λ q. Meets c.args.how q m.factor pair)
          (c.loop-entry.invariant.value (unit m.quantity) ∙ ap (joined c.args.how own) (none_before 0 c.args.entries.now c.loop-entry.entry-index m r l c.entry-item.is) ∙ sym (joined_nothing c.args.how own))
          (c.in_err-join_entry.ensures.overflow pair (ap Err (refusal_told _ _ pair c.from_residual.ensures.1 e))));
    }

pub returns-clause-value : goal.returns-clause-value
returns-clause-value c = λ v.
    let all : length c.args.entries.now ≤ c.loop-entry.entry-index = omega arith in
    c.loop-entry.invariant.value v ∙ ap (λ t. joined c.args.how (sum_at v c.args.slots.now.items) (sum_at v t)) (take_all c.loop-entry.entry-index c.args.entries.now all)
