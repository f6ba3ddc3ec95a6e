use Rattle.std.proofs.Common.{Err, ◌++◌, ap, subst}
use Rattle.std.proofs.lemmas.Result.{IfOk-weaker}
use Rattle.spec_transcript.specs.Operands.{binary_operands}
use Rattle.cq_frac.proofs.Exits.{refusal_told}
use Rattle.cq_cexpr.specs.Names.{binary_meant}
use Rattle.cq_cexpr.specs.Overflows.{ComesFrom}
use Rattle.cq_cexpr.specs.Sums.{whole_of, due_in}
use Rattle.cq_cexpr.specs.Work.{IsJoined}
use Rattle.cq_cexpr.proofs.Overflowing.{comes_within}
use Rattle.cq_cexpr.proofs.Steps.{right_waits, right_returns, right_comes}
use Rattle.cq_cexpr.proofs.evaluation.resume.Goals as goal

pub returns-in_err-form-in-Only-clause-overflow : goal.returns-in_err-form-in-Only-clause-overflow
returns-in_err-form-in-Only-clause-overflow c = λ pair e texts ts all due can.
    comes_within (due_in c.args.sum) all pair due (c.in_err-form-in-Only.ensures.overflow pair (ap Err (refusal_told _ _ pair c.from_residual.ensures.1 e)))

pub returns-in_ok-wait-in-Left-clause-goes_on : goal.returns-in_ok-wait-in-Left-clause-goes_on
returns-in_ok-wait-in-Left-clause-goes_on c = λ texts ts all due can.
    right_waits texts ts all c.args.under_way.now.items c.wait.new.under_way.items c.args.waiting c.in-Left.operation c.in-Left.right c.args.sum c.in-Left.is due can c.in_ok-wait-in-Left.ensures

pub returns-in_err-right-in-Right-clause-overflow : goal.returns-in_err-right-in-Right-clause-overflow
returns-in_err-right-in-Right-clause-overflow c = λ pair e texts ts all due can.
    comes_within (due_in c.args.sum) all pair due (c.in_err-right-in-Right.ensures.overflow pair (ap Err (refusal_told _ _ pair c.from_residual-in_err-right-in-Right.ensures.1 e)))

pub returns-in_ok-right-in-Right-clause-goes_on : goal.returns-in_ok-right-in-Right-clause-goes_on
returns-in_ok-right-in-Right-clause-goes_on c =
    IfOk-weaker c.joined.result _ _
    (λ next j texts ts all due can. right_returns texts ts all c.args.under_way.now.items c.args.waiting (whole_of c.args.sum) c.in-Right.operation c.in-Right.left next c.in-Right.is can
    (subst (λ f. IsJoined (binary_meant c.in-Right.operation) c.in-Right.left f next) c.in_ok-right-in-Right.ensures.value j))
    c.joined.ensures.value

pub returns-in_ok-right-in-Right-clause-overflow : goal.returns-in_ok-right-in-Right-clause-overflow
returns-in_ok-right-in-Right-clause-overflow c = λ pair e texts ts all due can.
    let left = c.in-Right.left in
    right_comes texts ts all c.args.under_way.now.items c.args.waiting (whole_of c.args.sum) c.in-Right.operation left pair c.in-Right.is can
    (subst (λ f. ComesFrom (due_in left ++ binary_operands (binary_meant c.in-Right.operation) (whole_of left) f) pair) c.in_ok-right-in-Right.ensures.value (c.joined.ensures.overflow pair e))
