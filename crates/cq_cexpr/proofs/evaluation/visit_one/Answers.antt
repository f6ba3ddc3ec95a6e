use Rattle.std.proofs.Common.{ap, ◌∙◌}
use Rattle.spec_branch.specs.Expressions.{unary_name}
use Rattle.cq_term.specs.Meaning.{at}
use Rattle.cq_term.proofs.Arguments.{some_arguments}
use Rattle.cq_cexpr.proofs.Steps.{one_argument, one_waits}
use Rattle.cq_cexpr.proofs.evaluation.visit_one.Goals as goal

pub arg-argument-requires-clause-within : goal.arg-argument-requires-clause-within
arg-argument-requires-clause-within c = some_arguments (at c.args.heap.now.now.terms c.args.id) c.args.name 1 c.requires.shown

pub returns : goal.returns
returns c = λ all can.
    let ts = c.args.heap.now.now.terms in
    one_waits c.args.atoms.now ts all c.args.under_way.now.items c.wait.new.under_way.items c.args.id c.arg-argument.result c.args.name c.unary_named-operation.result
    (one_argument (at ts c.args.id) (at ts c.arg-argument.result) c.args.name c.requires.shown c.arg-argument.ensures.arg)
    (c.unary_named-operation.ensures ∙ ap unary_name c.text.ensures.value) c.arg-argument.ensures.live c.in_ok-wait.ensures can
