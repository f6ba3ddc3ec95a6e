use Rattle.std.proofs.Common.{◌<◌, length, refl, ap, ◌∙◌, arith}
use Rattle.spec_branch.specs.Expressions.{binary_name}
use Rattle.cq_built.proofs.Arguments.{has_two, two_arguments}
use Rattle.cq_term.specs.Meaning.{at}
use Rattle.cq_term.specs.Shown.{arguments}
use Rattle.cq_cexpr.proofs.Steps.{left_waits}
use Rattle.cq_cexpr.proofs.evaluation.visit_two.Goals as goal

pub arg-left-requires-clause-within : goal.arg-left-requires-clause-within
arg-left-requires-clause-within c =
    let two : 1 < length (arguments (at c.args.heap.now.now.terms c.args.id)) = has_two (at c.args.heap.now.now.terms c.args.id) c.args.name 2 c.requires.shown refl in
    omega (arith, two)

pub arg-right-requires-clause-within : goal.arg-right-requires-clause-within
arg-right-requires-clause-within c =
    let two : 1 < length (arguments (at c.args.heap.now.now.terms c.args.id)) = has_two (at c.args.heap.now.now.terms c.args.id) c.args.name 2 c.requires.shown refl in
    omega (arith, two)

pub returns : goal.returns
returns c = λ all can.
    let ts = c.args.heap.now.now.terms in
    left_waits c.args.atoms.now ts all c.args.under_way.now.items c.wait.new.under_way.items c.args.id c.arg-left.result c.arg-right.result c.args.name c.binary_named-operation.result
    (two_arguments (at ts c.args.id) (at ts c.arg-left.result) (at ts c.arg-right.result) c.args.name 2 c.requires.shown refl c.arg-left.ensures.arg c.arg-right.ensures.arg)
    (c.binary_named-operation.ensures ∙ ap binary_name c.text.ensures.value) c.arg-left.ensures.live c.arg-right.ensures.live c.in_ok-wait.ensures can
