use Rattle.cq_ops.specs.Tables.{named}
use Rattle.cq_read.proofs.parse.steps.step.Goals as goal

pub returns-in-BeforeTerm-clause-step : goal.returns-in-BeforeTerm-clause-step
returns-in-BeforeTerm-clause-step c texts known is = rw c.in-BeforeTerm.is (c.before_term.ensures.step (named texts c.args.grammar.now.ops.now) texts known.grammar)

pub returns-in-AfterOperand-clause-known : goal.returns-in-AfterOperand-clause-known
returns-in-AfterOperand-clause-known c texts known = c.behind.ensures.known texts

pub returns-in-AfterFunctor-clause-step : goal.returns-in-AfterFunctor-clause-step
returns-in-AfterFunctor-clause-step c texts known is = rw c.in-AfterFunctor.is (c.after_functor.ensures.step (named texts c.args.grammar.now.ops.now) texts)

pub returns-in-AfterMinus-clause-step : goal.returns-in-AfterMinus-clause-step
returns-in-AfterMinus-clause-step c texts known is = rw c.in-AfterMinus.is (c.after_minus.ensures.step (named texts c.args.grammar.now.ops.now) texts)

pub returns-in-AfterOpenList-clause-step : goal.returns-in-AfterOpenList-clause-step
returns-in-AfterOpenList-clause-step c texts known is = rw c.in-AfterOpenList.is (c.after_open_list.ensures.step (named texts c.args.grammar.now.ops.now) texts known.grammar)

pub returns-in-AfterOpenCurly-clause-step : goal.returns-in-AfterOpenCurly-clause-step
returns-in-AfterOpenCurly-clause-step c texts known is = rw c.in-AfterOpenCurly.is (c.after_open_curly.ensures.step (named texts c.args.grammar.now.ops.now) texts known.grammar)

pub returns-in-AfterName-clause-names : goal.returns-in-AfterName-clause-names
returns-in-AfterName-clause-names c texts known is names = c.after_name.ensures.names texts known (rw c.in-AfterName.is at is) names

pub returns-in-AfterFunctor-clause-names : goal.returns-in-AfterFunctor-clause-names
returns-in-AfterFunctor-clause-names c texts known is names = c.after_functor.ensures.names texts (rw c.in-AfterFunctor.is at is) names
