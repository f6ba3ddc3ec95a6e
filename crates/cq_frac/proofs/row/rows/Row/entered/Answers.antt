use Rattle.std.proofs.Common.{◌≡◌, ◌∙◌, ap}
use Rattle.spec_numbers.specs.Rational.{neg_ℚ}
use Rattle.cq_frac.specs.Row.{Row}
use Rattle.cq_frac.specs.Rows.{others, negated}
use Rattle.cq_frac.proofs.Shifts.{others_row, negated_row, others_lacks, negated_lacks, entered_is}
use Rattle.cq_frac.proofs.row.rows.Row.entered.Goals as goal
use Rattle.cq_frac.proofs.row.rows.Row.entered.Goals.{In_ok-live}

rest_is : (c : In_ok-live) → c.in_ok-rest.rest.items ≡ others c.args.column c.args.self.now.live
rest_is c = c.in_ok-rest.ensures ∙ ap (others c.args.column) (c.deref.ensures.value ∙ ap (λ (r : Row). r.live) c.self.view_is)

opposite_is : (c : In_ok-live) → c.in_ok-live.live.items ≡ negated c.in_ok-rest.rest.items
opposite_is c = c.in_ok-live.ensures ∙ ap negated c.deref-2.ensures.value

pub put-requires-clause-row : goal.put-requires-clause-row
put-requires-clause-row c =
    let k = (goal.at.put-requires-clause-row c).In_ok-live in
    negated_row c.in_ok-rest.rest.items _ (opposite_is k) (others_row c.args.column c.args.self.now.live _ (rest_is k) c.requires.own.live_row)

pub put-requires-clause-new : goal.put-requires-clause-new
put-requires-clause-new c =
    let k = (goal.at.put-requires-clause-new c).In_ok-live in
    negated_lacks c.args.leaving c.in_ok-rest.rest.items _ (opposite_is k) (others_lacks c.args.column c.args.leaving c.args.self.now.live _ (rest_is k) c.requires.new)

pub returns : goal.returns
returns c =
    let k = (goal.at.returns c).In_ok-live in
    entered_is c.args.self.now _ c.args.column c.args.leaving c.args.rate c.in_ok-rest.rest.items c.in_ok-live.live.items (rest_is k) (opposite_is k)
    (record { row = c.in_ok-put.ensures.row; value = c.in_ok-put.ensures.value })
    (c.in_ok-opposed.ensures ∙ ap negated (c.deref-3.ensures.value ∙ ap (λ (r : Row). r.dropped) c.self.view_is))
    (c.neg.ensures ∙ ap (λ (r : Row). neg_ℚ r.constant) c.self.view_is)
