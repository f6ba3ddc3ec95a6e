use Rattle.std.proofs.Common.{◌≡◌, ℕ, ◌<◌, ◌≤◌, ◌∙◌, length, get_or, arith, ap, sym, subst}
use Rattle.spec_numbers.specs.Rational.{◌+ℚ◌, ◌*ℚ◌}
use Rattle.cq_frac.specs.Rows.{sum_at}
use Rattle.cq_frac.specs.declared.row.Entry.{Entry}
use Rattle.cq_frac.proofs.Placed.{sum_at-insert}
use Rattle.cq_cexpr.specs.Slots.{IsRisingFrom}
use Rattle.cq_cexpr.proofs.Places.{rising, rising_insert, nothing_added}
use Rattle.cq_cexpr.proofs.slots.slot_for.Goals as goal

pub place_of-at-requires : goal.place_of-at-requires
place_of-at-requires c = record { rising = rising 0 _ (subst (IsRisingFrom 0) (sym c.deref.ensures.value) c.requires.rising) }

pub returns-clause-rising : goal.returns-clause-rising
returns-clause-rising c =
    let n : Entry = record { quantity = c.args.variable; factor = c.zero.result } in
    let s = c.args.slots.now.items in
    let at = c.place_of-at.result in
    let bound : at ≤ length s = rw c.deref.ensures.value at c.place_of-at.ensures.bound in
    let below : (k : ℕ) (d : Entry) → k < at → (get_or s k d).quantity < c.args.variable = rw c.deref.ensures.value at c.place_of-at.ensures.below in
    let rest : (k : ℕ) (d : Entry) → at ≤ k → k < length s → c.args.variable ≤ (get_or s k d).quantity = rw c.deref.ensures.value at c.place_of-at.ensures.rest in
    let other : (d : Entry) → at < length s → (get_or s at d).quantity ≡ c.args.variable → ⊥ = rw c.deref-2.ensures.value at (c.has_slot.ensures.other c.if-has_slot.false) in
    subst (IsRisingFrom 0) (sym c.in_ok-insert.ensures.items)
    (rising_insert 0 s at n (omega arith) c.requires.rising bound below (λ l. let k = rest at n (omega arith) l in let h = other n l in omega (arith, k, h)))

pub returns-clause-value : goal.returns-clause-value
returns-clause-value c = λ v.
    let n : Entry = record { quantity = c.args.variable; factor = c.zero.result } in
    ap (sum_at v) c.in_ok-insert.ensures.items ∙ sum_at-insert v c.args.slots.now.items c.place_of-at.result n
    ∙ ap (λ q. sum_at v c.args.slots.now.items +ℚ q *ℚ v c.args.variable) c.zero.ensures ∙ nothing_added (sum_at v c.args.slots.now.items) (v c.args.variable)
