use Rattle.std.proofs.Common.{Err, Some, ap, ap₂, sym, subst, ◌∙◌}
use Rattle.spec_branch.specs.Expressions.{binary_of}
use Rattle.spec_transcript.specs.Operands.{binary_operands}
use Rattle.cq_frac.proofs.Exits.{refusal_told}
use Rattle.cq_cexpr.specs.Names.{binary_meant}
use Rattle.cq_cexpr.specs.Overflows.{Within, ComesFrom}
use Rattle.cq_cexpr.specs.Sums.{whole_of, due_in}
use Rattle.cq_cexpr.proofs.Overflowing.{within_left, within_right, comes_within}
use Rattle.cq_cexpr.proofs.Turns.{one_more_is, one_more_due, all_due}
use Rattle.cq_cexpr.proofs.evaluation.operated.Goals as goal

pub returns-in-Some-joining_of-clause-value : goal.returns-in-Some-joining_of-clause-value
returns-in-Some-joining_of-clause-value c =
    let left = c.in-Some.left in
    let right = c.in-Some-right.right in
    let how = c.in-Some-joining_of.how in
    let named = c.joining_of.ensures how c.in-Some-joining_of.is in
    one_more_is how left c.in_ok-with.field-0 right c.in_ok-with.ensures.first c.in_ok-with.ensures.more
    ∙ ap (λ n. binary_of n (whole_of (Some left)) (Some right)) (sym named)
    ∙ ap₂ (λ l r. binary_of (binary_meant c.args.operation) (whole_of l) r) (sym c.in-Some.is) (sym c.in-Some-right.is)

pub returns-in-Some-joining_of-clause-due : goal.returns-in-Some-joining_of-clause-due
returns-in-Some-joining_of-clause-due c =
    let left = c.in-Some.left in
    let right = c.in-Some-right.right in
    let how = c.in-Some-joining_of.how in
    let named = c.joining_of.ensures how c.in-Some-joining_of.is in
    subst (Within (due_in (Some c.in_ok-with.field-0)))
    (ap (λ n. all_due n (Some left) (Some right)) (sym named) ∙ ap₂ (all_due (binary_meant c.args.operation)) (sym c.in-Some.is) (sym c.in-Some-right.is))
    (one_more_due how left c.in_ok-with.field-0 right c.in_ok-with.ensures.first c.in_ok-with.ensures.more)

pub returns-in_err-form-clause-overflow : goal.returns-in_err-form-clause-overflow
returns-in_err-form-clause-overflow c = λ pair e.
    comes_within (due_in c.args.left) (all_due (binary_meant c.args.operation) c.args.left c.args.right) pair (within_left _ _)
    (subst (λ s. ComesFrom (due_in s) pair) (sym c.in-Some.is)
    (c.in_err-form.ensures.overflow pair (ap Err (refusal_told _ _ pair c.from_residual-in_err-form.ensures.1 e))))

pub returns-in_err-binary-clause-overflow : goal.returns-in_err-binary-clause-overflow
returns-in_err-binary-clause-overflow c = λ pair e.
    let n = binary_meant c.args.operation in
    comes_within (binary_operands n (whole_of c.args.left) c.args.right) (all_due n c.args.left c.args.right) pair (within_right (due_in c.args.left) _)
    (subst (λ l. ComesFrom (binary_operands n l c.args.right) pair) (c.in_ok-form.ensures.value ∙ ap whole_of (sym c.in-Some.is))
    (subst (λ r. ComesFrom (binary_operands n c.in_ok-form.form r) pair) (sym c.in-Some-right.is)
    (c.in_err-binary.ensures.overflow pair (ap Err (refusal_told _ _ pair c.from_residual-in_err-binary.ensures.1 e)))))
