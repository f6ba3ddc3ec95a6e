use Rattle.std.proofs.Common.{arith}
use Rattle.cq_dict.specs.Roles.{is_restricted}
use Rattle.cq_simplex.specs.Dictionary.{dictionary}
use Rattle.cq_simplex.proofs.Feasibility.{feasible_more, all_feasible}
use Rattle.tests_linear.proofs.problems.is_feasible.Goals as goal

pub loop-q-preserved : goal.loop-q-preserved
loop-q-preserved c = λ asked.
    feasible_more (is_restricted c.args.dict.now.restricted) (dictionary c.args.dict.now.roles asked) c.loop-q.q (c.loop-q.invariant asked) (c.if-not-row_is_feasible.ensures asked)

pub returns : goal.returns
returns c = λ asked.
    all_feasible c.args.dict.now.roles (is_restricted c.args.dict.now.restricted) asked c.loop-q.q
    (omega (arith, c.loop-q-test.false, c.loop-q.auto.q-end, c.count-q-end.ensures.value)) (c.loop-q.invariant asked)
