use Rattle.std.proofs.Common.{sym, ap, ◌∙◌, ◌<◌, [], length, arith}
use Rattle.cq_term.specs.Meaning.{at}
use Rattle.cq_term.specs.Shown.{arguments}
use Rattle.spec_terms.specs.Operations.{binary_named}
use Rattle.cq_goals.proofs.Steps.{has_two, two_arguments, applied}
use Rattle.cq_goals.proofs.arith.evaluation.apply_at_once.Goals as goal

pub arg-requires-clause-within : goal.arg-requires-clause-within
arg-requires-clause-within c =
    let two : 1 < length (arguments (at c.args.heap.now.now.terms c.args.id)) = has_two (at c.args.heap.now.now.terms c.args.id) c.args.name c.requires.shown in
    omega (arith, two)

pub arg-requires-2-clause-within : goal.arg-requires-2-clause-within
arg-requires-2-clause-within c =
    let two : 1 < length (arguments (at c.args.heap.now.now.terms c.args.id)) = has_two (at c.args.heap.now.now.terms c.args.id) c.args.name c.requires.shown in
    omega (arith, two)

pub returns-in-Ok : goal.returns-in-Ok
returns-in-Ok c =
    let texts = c.args.atoms.now in
    let ts = c.args.heap.now.now.terms in
    applied texts ts [] [] c.args.id c.arg.result c.arg-2.result c.args.name c.in-Some-binary_operation.operation c.in-Some.left c.in-Some-number_of.right
    (two_arguments (at ts c.args.id) (at ts c.arg.result) (at ts c.arg-2.result) c.args.name c.requires.shown c.arg.ensures.arg c.arg-2.ensures.arg)
    (ap binary_named (sym c.text.ensures.value) ∙ sym c.binary_operation.ensures ∙ c.in-Some-binary_operation.is) c.in-Some.ensures c.in-Some-number_of.ensures
    ∙ c.in-Ok.ensures.value
