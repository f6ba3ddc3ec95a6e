use Rattle.std.proofs.Common.{Some, ap, ◌∙◌}
use Rattle.cq_cert.proofs.Fractions.{negative_zero, negative_some}
use Rattle.cq_cert.proofs.Runs.{zero_test}
use Rattle.cq_cert.proofs.words.fraction.Goals as goal

pub returns-then-is_zero : goal.returns-then-is_zero
returns-then-is_zero c =
    negative_zero c.args.word.now c.in_ok-first.rest.now c.in_ok-first.field-0-0.now c.in_ok-q.q c.in_ok-first.ensures.cases.0 c.if-first-ne45.false c.in_ok-q.ensures
    (zero_test c.in_ok-q.q c.is_zero.result c.is_zero.ensures.0 c.is_zero.ensures.1 ∙ c.if-is_zero.true)

pub returns-else-is_zero : goal.returns-else-is_zero
returns-else-is_zero c =
    ap (λ q. Some q) c.neg.ensures
    ∙ negative_some c.args.word.now c.in_ok-first.rest.now c.in_ok-first.field-0-0.now c.in_ok-q.q c.in_ok-first.ensures.cases.0 c.if-first-ne45.false c.in_ok-q.ensures
    (zero_test c.in_ok-q.q c.is_zero.result c.is_zero.ensures.0 c.is_zero.ensures.1 ∙ c.if-is_zero.false)
