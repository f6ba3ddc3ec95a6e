use Rattle.std.proofs.Common.{◌≡◌, false, true, Err, ap, subst, ◌∙◌}
use Rattle.spec_numbers.proofs.Tests.{neither, or_left, or_right}
use Rattle.spec_linear.specs.Form.{sum_form, scaled_form}
use Rattle.spec_log.specs.Verdicts.{join_exceeds, multiple_exceeds}
use Rattle.cq_cert.proofs.Weights.{scale_refused, scale_accepted, join_refused, join_accepted}
use Rattle.cq_cert.proofs.sums.with_multiple.Goals as goal

pub returns-in-Err-Overflow : goal.returns-in-Err-Overflow
returns-in-Err-Overflow c =
    let k = c.args.k in
    let f = c.args.form.now in
    let pair = c.in-Err-Overflow.field-0-0 in
    let told = c.in-Err-Overflow.ensures.overflow pair (ap Err c.in-Err-Overflow.field-0-is) in
    or_left (multiple_exceeds k f) (join_exceeds c.args.sum (scaled_form k f)) (scale_refused k f pair.operation pair.left pair.right told.0 told.1)

pub returns-in-Ok-add : goal.returns-in-Ok-add
returns-in-Ok-add c =
    let k = c.args.k in
    let f = c.args.form.now in
    let multiple = c.in-Ok.ensures.value in (
      c.in-Ok-add.ensures.value ∙ ap (sum_form c.args.sum) multiple,
      neither (multiple_exceeds k f) (join_exceeds c.args.sum (scaled_form k f)) (scale_accepted k f c.in-Ok.ensures.accepted)
          (subst (λ g. join_exceeds c.args.sum g ≡ false) multiple (join_accepted c.args.sum c.in-Ok.multiple c.in-Ok-add.ensures.accepted)),
    )

pub returns-in-Err-Overflow-add : goal.returns-in-Err-Overflow-add
returns-in-Err-Overflow-add c =
    let k = c.args.k in
    let f = c.args.form.now in
    let pair = c.in-Err-Overflow-add.field-0-0 in
    let told = c.in-Err-Overflow-add.ensures.overflow pair (ap Err c.in-Err-Overflow-add.field-0-is) in
    or_right (multiple_exceeds k f) (join_exceeds c.args.sum (scaled_form k f))
    (subst (λ g. join_exceeds c.args.sum g ≡ true) c.in-Ok.ensures.value (join_refused c.args.sum c.in-Ok.multiple pair.operation pair.left pair.right told.0 told.1))
