use Rattle.std.proofs.Common.{◌≡◌, ◌<◌, ◌≤◌, ◌∙◌, Err, length, take, arith, ap, subst}
use Rattle.std.proofs.lemmas.List.{take_all}
use Rattle.spec_linear.specs.Form.{without_zeros}
use Rattle.cq_frac.specs.Refused.{Tells}
use Rattle.cq_frac.proofs.Exits.{pair_told, refusal_told}
use Rattle.cq_frac.specs.Rows.{joined, operation_of}
use Rattle.cq_form.specs.Entries.{products_of}
use Rattle.cq_cexpr.specs.Sums.{all_joined}
use Rattle.cq_cexpr.proofs.Turns.{constant_due, coefficient_due, held_next, left_in_order, left_is}
use Rattle.cq_cexpr.proofs.sums.by_variable.Goals as goal

pub loop-next-init : goal.loop-next-init
loop-next-init c = record {
  rising = c.in_ok-slots.ensures.rising;
  in_order = c.is_in_order.ensures;
  constant = c.constant-constant.ensures;
  value = c.in_ok-slots.ensures.value;
}

pub returns-in_err-constant-clause-overflow : goal.returns-in_err-constant-clause-overflow
returns-in_err-constant-clause-overflow c = λ pair e.
    let l : c.loop-next.next-index < length c.args.more.now = omega arith in
    let n = c.next-item.result in
    constant_due c.args.first.now c.args.more.now c.loop-next.next-index n c.loop-next.constant c.loop-next.slots.items l c.next-item.is c.loop-next.invariant pair
    (subst (λ q. Tells (operation_of n.0) c.loop-next.constant q pair) c.constant.ensures
    (subst (Tells (operation_of n.0) c.loop-next.constant c.constant.result) (pair_told _ _ pair c.from_residual-in_err-constant.ensures.1 e) c.in_err-constant.ensures))

pub returns-in_err-join_all-clause-overflow : goal.returns-in_err-join_all-clause-overflow
returns-in_err-join_all-clause-overflow c = λ pair e.
    let l : c.loop-next.next-index < length c.args.more.now = omega arith in
    coefficient_due c.args.first.now c.args.more.now c.loop-next.next-index c.next-item.result c.loop-next.constant c.loop-next.slots.items l c.next-item.is c.loop-next.invariant
    c.entries.result.now c.entries.ensures.value pair
    (c.in_err-join_all.ensures.overflow pair (ap Err (refusal_told _ _ pair c.from_residual-in_err-join_all.ensures.1 e)))

pub loop-next-preserved : goal.loop-next-preserved
loop-next-preserved c =
    let l : c.loop-next.next-index < length c.args.more.now = omega arith in
    let n = c.next-item.result in
    held_next c.args.first.now c.args.more.now c.loop-next.next-index n c.loop-next.constant c.loop-next.slots.items l c.next-item.is c.loop-next.invariant
    c.in_ok-constant.constant c.join_all.new.slots.items c.entries.result.now c.entries.ensures.in_order c.entries.ensures.value
    (c.in_ok-constant.ensures.0 ∙ ap (joined n.0 c.loop-next.constant) c.constant.ensures) c.in_ok-join_all.ensures.rising c.in_ok-join_all.ensures.value

pub of_entries-requires : goal.of_entries-requires
of_entries-requires c = record {
  in_order = left_in_order (all_joined c.args.first.now (take c.loop-next.next-index c.args.more.now)) c.loop-next.constant c.loop-next.slots.items c.in_ok-entries.entries.items
      c.loop-next.invariant (c.in_ok-entries.ensures ∙ ap (λ s. without_zeros (products_of s)) c.deref-2.ensures.value);
}

pub returns-clause-value : goal.returns-clause-value
returns-clause-value c =
    let all : length c.args.more.now ≤ c.loop-next.next-index = omega arith in
    c.of_entries.ensures
    ∙ left_is (all_joined c.args.first.now (take c.loop-next.next-index c.args.more.now)) c.loop-next.constant c.loop-next.slots.items c.in_ok-entries.entries.items
    c.loop-next.invariant (c.in_ok-entries.ensures ∙ ap (λ s. without_zeros (products_of s)) c.deref-2.ensures.value)
    ∙ ap (all_joined c.args.first.now) (take_all c.loop-next.next-index c.args.more.now all)
