use Rattle.std.proofs.Common.{sym, subst, ap, ◌∙◌}
use Rattle.cq_term.specs.Meaning.{at}
use Rattle.spec_terms.specs.Operations.{unary_named}
use Rattle.cq_goals.specs.ArithFaults.{ComesTo}
use Rattle.cq_goals.specs.Work.{evaluated_at}
use Rattle.cq_goals.proofs.Steps.{has_one, one_argument, not_unary, one_waits}
use Rattle.cq_goals.proofs.arith.evaluation.visit_one.Goals as goal

pub returns-in_default-clause-fault : goal.returns-in_default-clause-fault
returns-in_default-clause-fault c =
    subst (ComesTo c.args.atoms.now (evaluated_at c.args.atoms.now c.args.heap.now.now.terms c.args.id)) (sym c.not_evaluable.ensures)
    (not_unary c.args.atoms.now (at c.args.heap.now.now.terms c.args.id) c.args.name c.requires.shown
    (ap unary_named (sym c.text.ensures.value) ∙ sym c.unary_operation.ensures ∙ c.in_default.is))

pub arg-argument-requires-clause-within : goal.arg-argument-requires-clause-within
arg-argument-requires-clause-within c = has_one (at c.args.heap.now.now.terms c.args.id) c.args.name c.requires.shown

pub returns-clause-goes_on : goal.returns-clause-goes_on
returns-clause-goes_on c =
    let ts = c.args.heap.now.now.terms in
    one_waits c.args.atoms.now ts c.args.under_way.now.items c.wait.new.under_way.items c.args.id c.arg-argument.result c.args.name c.in-Some.operation
    (one_argument (at ts c.args.id) (at ts c.arg-argument.result) c.args.name c.requires.shown c.arg-argument.ensures.arg)
    (ap unary_named (sym c.text.ensures.value) ∙ sym c.unary_operation.ensures ∙ c.in-Some.is)
    c.requires.names c.arg-argument.ensures.live c.in_ok-wait.ensures
