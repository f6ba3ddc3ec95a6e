use Rattle.std.proofs.Common.{sym, subst}
use Rattle.spec_terms.specs.Operations.{Value}
use Rattle.cq_goals.specs.ArithFaults.{ComesTo}
use Rattle.cq_goals.specs.Work.{resumed}
use Rattle.cq_goals.proofs.Steps.{right_waits}
use Rattle.cq_goals.proofs.arith.evaluation.resume.Goals as goal

pub returns-in_ok-wait-in-Left-clause-goes_on : goal.returns-in_ok-wait-in-Left-clause-goes_on
returns-in_ok-wait-in-Left-clause-goes_on c = λ texts ts h.
    right_waits texts ts c.args.under_way.now.items c.wait.new.under_way.items c.args.waiting c.in-Left.operation c.in-Left.right c.args.value c.in-Left.is h c.in_ok-wait-in-Left.ensures

pub returns-in-Err-clause-fault : goal.returns-in-Err-clause-fault
returns-in-Err-clause-fault c = λ texts ts.
    subst (λ w. ComesTo texts (resumed texts ts w (Value c.args.value)) c.in-Err.fault) (sym c.in-Right.is) (c.in-Err.ensures.fault texts)
