use Rattle.std.proofs.Common.{sym, subst, ap, ◌∙◌, ◌<◌, length, arith}
use Rattle.cq_term.specs.Meaning.{at}
use Rattle.cq_term.specs.Shown.{arguments}
use Rattle.spec_terms.specs.Operations.{binary_named}
use Rattle.cq_goals.specs.ArithFaults.{ComesTo}
use Rattle.cq_goals.specs.Work.{evaluated_at}
use Rattle.cq_goals.proofs.Steps.{has_two, two_arguments, not_binary, left_waits, value_returned}
use Rattle.cq_goals.proofs.arith.evaluation.visit_two.Goals as goal

pub returns-in_default-binary_operation-clause-fault : goal.returns-in_default-binary_operation-clause-fault
returns-in_default-binary_operation-clause-fault c =
    subst (ComesTo c.args.atoms.now (evaluated_at c.args.atoms.now c.args.heap.now.now.terms c.args.id)) (sym c.not_evaluable.ensures)
    (not_binary c.args.atoms.now (at c.args.heap.now.now.terms c.args.id) c.args.name c.requires.shown
    (ap binary_named (sym c.text.ensures.value) ∙ sym c.binary_operation.ensures ∙ c.in_default-binary_operation.is))

pub arg-left-requires-clause-within : goal.arg-left-requires-clause-within
arg-left-requires-clause-within c =
    let two : 1 < length (arguments (at c.args.heap.now.now.terms c.args.id)) = has_two (at c.args.heap.now.now.terms c.args.id) c.args.name c.requires.shown in
    omega (arith, two)

pub arg-right-requires-clause-within : goal.arg-right-requires-clause-within
arg-right-requires-clause-within c =
    let two : 1 < length (arguments (at c.args.heap.now.now.terms c.args.id)) = has_two (at c.args.heap.now.now.terms c.args.id) c.args.name c.requires.shown in
    omega (arith, two)

pub returns-clause-goes_on : goal.returns-clause-goes_on
returns-clause-goes_on c =
    let ts = c.args.heap.now.now.terms in
    left_waits c.args.atoms.now ts c.args.under_way.now.items c.wait.new.under_way.items c.args.id c.arg-left.result c.arg-right.result c.args.name c.in-Some-binary_operation.operation
    (two_arguments (at ts c.args.id) (at ts c.arg-left.result) (at ts c.arg-right.result) c.args.name c.requires.shown c.arg-left.ensures.arg c.arg-right.ensures.arg)
    (ap binary_named (sym c.text.ensures.value) ∙ sym c.binary_operation.ensures ∙ c.in-Some-binary_operation.is)
    c.requires.names c.arg-left.ensures.live c.arg-right.ensures.live c.in_ok-wait.ensures

pub returns-in-Some-clause-goes_on : goal.returns-in-Some-clause-goes_on
returns-in-Some-clause-goes_on c =
    value_returned c.args.atoms.now c.args.heap.now.now.terms c.args.under_way.now.items c.args.under_way.now.items c.args.id c.in-Some.value c.in-Some.ensures
